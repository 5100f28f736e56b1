use Rattle.std.proofs.Common.{subst, sym, ◌∙◌}
use Rattle.policy_values.specs.ValueOrder.{IsInOrder}
use Rattle.policy_values.proofs.value.like.Goals as goal

pub invariant_of-result : goal.invariant_of-result
invariant_of-result c = subst IsInOrder (c.v.view_is ∙ sym c.requires) c.v.invariant
