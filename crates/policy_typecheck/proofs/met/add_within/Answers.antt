use Rattle.std.proofs.Common.{sym}
use Rattle.std.proofs.lemmas.Result.{on_ok_weaker}
use Rattle.policy_values.specs.Uid.{copied_uid}
use Rattle.policy_typecheck.proofs.MetActions.{within_action, within_other}
use Rattle.policy_typecheck.proofs.met.add_within.Goals as goal

pub returns-in-Some : goal.returns-in-Some
returns-in-Some c =
    let u = c.args.uid.now in
    let same = copied_uid u c.in_ok-clone.field-0 c.in_ok-clone.ensures.cases in
    on_ok_weaker c.add_all.result
    (λ held. within_action c.args.schema.now u c.in-Some.action.now (sym c.in-Some.ensures) c.args.ids.now.keys c.insert.new.self.keys c.add_all.new.set.keys
    (λ q. rw (← same) (c.in_ok-insert.ensures.updates.0 q)) (λ q. rw c.descendants.ensures.value at (held q)))
    c.add_all.ensures.has

pub returns-in-None : goal.returns-in-None
returns-in-None c =
    let u = c.args.uid.now in
    let same = copied_uid u c.in_ok-clone.field-0 c.in_ok-clone.ensures.cases in
    within_other c.args.schema.now u (sym c.in-None.ensures) c.args.ids.now.keys c.insert.new.self.keys (λ q. rw (← same) (c.in_ok-insert.ensures.updates.0 q))
