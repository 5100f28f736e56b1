use Rattle.std.proofs.Common.{ap, sym, subst, ◌∙◌}
use Rattle.policy_values.specs.Value.{set, vals_of}
use Rattle.policy_values.specs.ValueOrder.{Ascends}
use Rattle.policy_values.proofs.ValueSteps.{vals_of-ascending, Ascends-set_of}
use Rattle.policy_values.proofs.value.Value.set.Goals as goal

pub returns : goal.returns
returns c = ap set (ap vals_of c.ascending_values.ensures ∙ vals_of-ascending c.args.items.items)

pub invariant_of-result : goal.invariant_of-result
invariant_of-result c = subst Ascends (sym (ap vals_of c.ascending_values.ensures ∙ vals_of-ascending c.args.items.items)) (Ascends-set_of c.args.items.items)
