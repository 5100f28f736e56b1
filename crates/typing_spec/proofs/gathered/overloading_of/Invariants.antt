use Rattle.std.proofs.Common.{◌≡◌, take}
use Rattle.std.specs.BTreeSet.{IsOrdered}
use Rattle.policy_values.specs.Uid.{text_cmp}
use Rattle.typing_spec.specs.Table.{overloading_in}
use Rattle.typing_spec.proofs.gathered.overloading_of.Given as goal

abbrev pub invariant-loop-schema : goal.invariant-loop-schema
invariant-loop-schema l = record {
  value : l.names.keys ≡ overloading_in (take l.schema-index l.extension_schemas);
  ordered : IsOrdered text_cmp l.names;
}
