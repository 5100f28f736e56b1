use Rattle.std.proofs.Common.{◌+◌, ◌*◌, ◌≤◌, drop}
use Rattle.std.specs.Prelude.{◌↔◌}
use Rattle.policy_values.specs.Value.{size_of, size_of_all, size_of_fields, vals_of, fields_of}
use Rattle.type_relations.specs.Member.{Members, Typed}
use Rattle.type_relations.proofs.member.+member.Given as goal

abbrev pub decreases-has_value : goal.decreases-has_value
decreases-has_value l = 3 * size_of l.v.now + 1

abbrev pub decreases-kind_has : goal.decreases-kind_has
decreases-kind_has l = 3 * size_of l.v.now

abbrev pub decreases-have_all : goal.decreases-have_all
decreases-have_all l = 3 * size_of_all (vals_of l.items.now.items) + 2

abbrev pub decreases-are_typed : goal.decreases-are_typed
decreases-are_typed l = 3 * size_of_fields (fields_of l.fields.now.entries) + 2

-- what is left decides
abbrev pub invariant-have_all-loop-item : goal.invariant-have_all-loop-item
invariant-have_all-loop-item l = Members l.t (vals_of l.items.items) ↔ Members l.t (vals_of (drop l.item-index l.items.items))

abbrev pub invariant-are_typed-loop-key : goal.invariant-are_typed-loop-key
invariant-are_typed-loop-key l = record {
  left : Typed l.o l.attrs (fields_of l.fields.entries) ↔ Typed l.o l.attrs (fields_of l.key-iterator);
  size : size_of_fields (fields_of l.key-iterator) ≤ size_of_fields (fields_of l.fields.entries);
}
