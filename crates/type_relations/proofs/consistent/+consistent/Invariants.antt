use Rattle.std.proofs.Common.{◌≡◌, ◌+◌, ◌*◌, ◌≤◌}
use Rattle.schema_types.specs.Ty.{size_of, size_of_attrs}
use Rattle.schema_types.specs.SchemaView.{schema_attrs_of}
use Rattle.type_relations.specs.Consistent.{agree}
use Rattle.type_relations.proofs.consistent.+consistent.Given as goal

abbrev pub decreases-is_consistent_with : goal.decreases-is_consistent_with
decreases-is_consistent_with l = 2 * size_of l.schema_type.now

abbrev pub decreases-do_agree : goal.decreases-do_agree
decreases-do_agree l = 2 * size_of_attrs l.attrs.now + 1

-- what is left decides
abbrev pub invariant-do_agree-loop-key : goal.invariant-do_agree-loop-key
invariant-do_agree-loop-key l = record {
  left : agree l.open_attributes (schema_attrs_of l.key-iterator) l.others ≡ agree l.open_attributes l.attrs l.others;
  size : size_of_attrs (schema_attrs_of l.key-iterator) ≤ size_of_attrs l.attrs;
}
