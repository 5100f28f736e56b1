use Rattle.std.proofs.Common.{subst}
use Rattle.std.specs.List.Sorted.{IsStrictlySortedBy}
use Rattle.policy_values.specs.Uid.{text_cmp}
use Rattle.schema_types.proofs.AttrSteps.{keys_of_attrs}
use Rattle.schema_types.proofs.ty.keys_of.Goals as goal

pub returns-clause-ascending : goal.returns-clause-ascending
returns-clause-ascending c = subst (IsStrictlySortedBy text_cmp) (keys_of_attrs c.args.entries.now.entries) c.keys.ensures.ordered
