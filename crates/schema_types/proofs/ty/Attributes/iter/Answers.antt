use Rattle.std.proofs.Common.{subst}
use Rattle.std.specs.List.Sorted.{IsStrictlySortedBy}
use Rattle.policy_values.specs.Uid.{text_cmp}
use Rattle.schema_types.specs.Ty.{keys_in}
use Rattle.schema_types.proofs.AttrSteps.{keys_of_attrs}
use Rattle.schema_types.proofs.ty.Attributes.iter.Goals as goal

pub returns-clause-ascending : goal.returns-clause-ascending
returns-clause-ascending c = rw c.self.view_is at (subst (IsStrictlySortedBy text_cmp) (keys_of_attrs c.self.inside.attrs.value.entries) c.self.invariant)
