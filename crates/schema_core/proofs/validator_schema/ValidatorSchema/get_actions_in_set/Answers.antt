use Rattle.std.proofs.Common.{sym}
use Rattle.std.proofs.lemmas.List.{take_all}
use Rattle.policy_values.specs.Uid.{copied_uid}
use Rattle.schema_core.proofs.Queries.{actions_more, actions_all}
use Rattle.schema_core.proofs.validator_schema.ValidatorSchema.get_actions_in_set.Goals as goal

pub loop-uid-preserved : goal.loop-uid-preserved
loop-uid-preserved c =
    let u = c.uid-item.result in
    let same = copied_uid u c.in_ok-clone.field-0 c.in_ok-clone.ensures.cases in
    actions_more c.args.self.now c.args.uids.now c.loop-uid.uid-index u c.in-Some.action.now c.loop-uid.actions.keys c.insert.new.self.keys c.add_all.new.set.keys
    c.loop-uid-test.true c.uid-item.is (sym c.in-Some.ensures) c.loop-uid.invariant c.in_ok-add_all.ensures.ordered
    (λ q. rw (← same) (c.in_ok-insert.ensures.updates.0 q)) (λ q. rw c.descendants.ensures.value at (c.in_ok-add_all.ensures.has q))

pub returns-clause-actions : goal.returns-clause-actions
returns-clause-actions c = actions_all c.args.self.now c.args.uids.now c.loop-uid.actions.keys (rw (take_all c.loop-uid.uid-index c.args.uids.now c.loop-uid-test.false) at c.loop-uid.invariant)
