use Rattle.policy_values.proofs.ValueSteps.{AscendsFields-entries}
use Rattle.policy_values.proofs.value.Value.record.Goals as goal

pub invariant_of-result : goal.invariant_of-result
invariant_of-result c = AscendsFields-entries c.args.fields.entries c.len-count.ensures.ordered
