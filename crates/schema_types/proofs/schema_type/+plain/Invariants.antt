use Rattle.std.proofs.Common.{◌≡◌, ◌+◌, ◌*◌, ◌≤◌, ◌++◌}
use Rattle.std.specs.Prelude.{option_map}
use Rattle.std.specs.Map.{keys_of}
use Rattle.schema_types.specs.Ty.{size_of, size_of_attrs}
use Rattle.schema_types.specs.TyView.{kind_of, attrs_of}
use Rattle.schema_types.specs.Plain.{plain_attrs}
use Rattle.schema_types.proofs.PlainSteps.{in_prefix}
use Rattle.schema_types.proofs.schema_type.+plain.Given as goal

abbrev pub decreases-schema_type_of : goal.decreases-schema_type_of
decreases-schema_type_of l = 3 * size_of l.t.now + 1

abbrev pub decreases-schema_kind : goal.decreases-schema_kind
decreases-schema_kind l = 3 * size_of (kind_of l.k.now)

abbrev pub decreases-schema_attributes : goal.decreases-schema_attributes
decreases-schema_attributes l = 3 * size_of_attrs l.a.now + 2

abbrev pub decreases-schema_entries : goal.decreases-schema_entries
decreases-schema_entries l = 3 * size_of_attrs (attrs_of l.entries.now.entries) + 1

-- what is done, before what is left
abbrev pub invariant-schema_entries-loop-key : goal.invariant-schema_entries-loop-key
invariant-schema_entries-loop-key l = record {
  left : option_map (in_prefix l.made.entries) (plain_attrs (attrs_of l.key-iterator)) ≡ plain_attrs (attrs_of l.entries.entries);
  keys : keys_of l.entries.entries ≡ keys_of l.made.entries ++ keys_of l.key-iterator;
  size : size_of_attrs (attrs_of l.key-iterator) ≤ size_of_attrs (attrs_of l.entries.entries);
}
