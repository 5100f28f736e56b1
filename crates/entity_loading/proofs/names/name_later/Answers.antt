use Rattle.std.proofs.Common.{subst}
use Rattle.std.proofs.lemmas.Result.{on_ok_weaker}
use Rattle.plain_lemmas.proofs.Lists.{within_of_is_some}
use Rattle.entity_loading.specs.Waiting.{Waits}
use Rattle.entity_loading.proofs.WaitSteps.{waiting_more, wait_from}
use Rattle.entity_loading.proofs.names.name_later.Goals as goal

pub returns-clause-named : goal.returns-clause-named
returns-clause-named c =
    let w = c.args.trie.now in
    let x = c.args.uid.now in
    let old = c.args.waiting.now in
    let new = c.wait.new.waiting in
    on_ok_weaker c.wait.result (λ h s. waiting_more w.number x old new (subst (λ n. Waits n x old new) c.number.ensures h) s w.nodes) c.wait.ensures

pub returns-clause-later : goal.returns-clause-later
returns-clause-later c =
    let w = c.args.trie.now in
    let x = c.args.uid.now in
    let old = c.args.waiting.now in
    let new = c.wait.new.waiting in
    on_ok_weaker c.wait.result (λ h k low. wait_from w.number x old new (subst (λ n. Waits n x old new) c.number.ensures h) k w.nodes low (within_of_is_some w.nodes w.number c.requires)) c.wait.ensures
