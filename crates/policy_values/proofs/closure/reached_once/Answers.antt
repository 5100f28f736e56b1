use Rattle.std.proofs.Common.{◌≡◌, sym, ◌∙◌}
use Rattle.std.proofs.lemmas.List.Elements.{same_from_all_zip}
use Rattle.std.proofs.lemmas.Result.{IfOk-weaker}
use Rattle.policy_values.proofs.Known.{known_more}
use Rattle.policy_values.proofs.closure.reached_once.Goals as goal

pub returns-in-Some-clause-reached : goal.returns-in-Some-clause-reached
returns-in-Some-clause-reached g c =
    let facts = rw (sym c.in-Some.ensures.value) at (c.requires.known.reached c.args.next.now) in
    IfOk-weaker c.try_clone.result (λ s. s ≡ c.in-Some.reached.now) _ (λ s e. rw e (λ y. facts c.args.key.now y c.requires.here)) c.try_clone.ensures

pub returns-in-Some-clause-ordered : goal.returns-in-Some-clause-ordered
returns-in-Some-clause-ordered g c =
    let facts = rw (sym c.in-Some.ensures.value) at (c.requires.known.ordered c.args.next.now) in
    IfOk-weaker c.try_clone.result (λ s. s ≡ c.in-Some.reached.now) _ (λ s e. rw e facts) c.try_clone.ensures

pub returns-clause-known : goal.returns-clause-known
returns-clause-known g c =
    let same = same_from_all_zip _ c.args.next.now.keys c.in_ok-clone.field-0.keys c.in_ok-clone.ensures.cases g.met.K.Key.copies in
    let copied : c.in_ok-clone.field-0 ≡ c.args.next.now = λ j. record { keys = same j } in
    known_more g.met.K.Key.exact c.args.steps.now.entries _ _ c.args.key.now c.args.next.now c.in_ok-reached_anew.field-0 c.requires.known c.requires.here
    c.in_ok-reached_anew.ensures.reached c.in_ok-reached_anew.ensures.ordered
    (λ q. rw (copied, c.in_ok-try_clone.ensures ∙ c.in_ok-reached.ensures) at (c.in_ok-insert.ensures.updates.0 q))
