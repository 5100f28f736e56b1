use Rattle.std.proofs.Common.{subst}
use Rattle.std.proofs.lemmas.Result.{IfOk-weaker}
use Rattle.entity_store.specs.Store.{entity_at}
use Rattle.entity_loading.specs.Answered.{SomeAnswerBlocks}
use Rattle.entity_loading.specs.Begun.{SomeRootBlocks}
use Rattle.entity_loading.specs.CannotGoOn.{CannotStep}
use Rattle.entity_loading.proofs.BlockedSteps.{blocked_whole}
use Rattle.entity_loading.proofs.blocked.blocked_value.Goals as goal

pub returns : goal.returns
returns c =
    let t = c.args.trie.now in
    let q = c.args.request.now in
    let s = c.args.entities.now in
    let ps = c.in_ok-places.places.keys in
    let free = subst (CannotStep (SomeRootBlocks t q)) c.in_default.is c.in_ok-value.ensures in
    IfOk-weaker c.blocked_at_some.result _ _ (λ o h. blocked_whole t q s ps c.in_ok-places.ensures.reached o free (subst (λ ns. CannotStep (SomeAnswerBlocks ns (entity_at s) ps) o) c.nodes.ensures.nodes h)) c.blocked_at_some.ensures
