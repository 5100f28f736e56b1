use Rattle.std.proofs.Common.{◌≡◌, ◌+◌, ◌*◌, ◌≤◌, ◌++◌, length}
use Rattle.std.specs.Map.{keys_of}
use Rattle.schema_types.specs.Ty.{size_of, size_of_attrs}
use Rattle.schema_types.specs.declared.ty.TypeKind.TheVariants.{Set}
use Rattle.schema_types.specs.TyView.{kind_of, ty_of, attrs_of}
use Rattle.type_relations.specs.Join.{result_map, join_attrs, shared}
use Rattle.type_relations.proofs.JoinSteps.{in_prefix}
use Rattle.type_relations.proofs.Pending.{pending}
use Rattle.type_relations.proofs.MergeSteps.{IsMerge}
use Rattle.type_relations.proofs.join.+join.Given as goal

abbrev pub decreases-join : goal.decreases-join
decreases-join l = 4 * size_of l.a.now + 1

abbrev pub decreases-join_kinds : goal.decreases-join_kinds
decreases-join_kinds l = 4 * size_of (kind_of l.x.now)

abbrev pub decreases-join_sets : goal.decreases-join_sets
decreases-join_sets l = 4 * size_of (ty_of (Set l.x.now))

abbrev pub decreases-join_actions : goal.decreases-join_actions
decreases-join_actions l = 4 * size_of_attrs l.a.now + 3

abbrev pub decreases-join_records : goal.decreases-join_records
decreases-join_records l = 4 * size_of_attrs l.a.now + 3

abbrev pub decreases-join_attributes : goal.decreases-join_attributes
decreases-join_attributes l = 4 * size_of_attrs l.a.now + 2

abbrev pub decreases-join_entries : goal.decreases-join_entries
decreases-join_entries l = 4 * size_of_attrs (attrs_of l.a.now.entries) + 1

abbrev pub decreases-shared_attributes : goal.decreases-shared_attributes
decreases-shared_attributes l = 4 * size_of_attrs l.a.now + 2

abbrev pub decreases-shared_entries : goal.decreases-shared_entries
decreases-shared_entries l = 4 * size_of_attrs (attrs_of l.a.now.entries) + 1

abbrev pub decreases-keep_shared : goal.decreases-keep_shared
decreases-keep_shared l = 4 * size_of l.x.now.attr_type + 2

-- what is done, before the join of what is left
abbrev pub invariant-join_entries-loop-key : goal.invariant-join_entries-loop-key
invariant-join_entries-loop-key l = record {
  left : result_map (in_prefix l.joined.entries) (join_attrs (attrs_of l.key-iterator) (attrs_of l.rest)) ≡ join_attrs (attrs_of l.a.entries) (attrs_of l.b.entries);
  keys : keys_of l.a.entries ≡ keys_of l.joined.entries ++ keys_of l.key-iterator;
  size : size_of_attrs (attrs_of l.key-iterator) ≤ size_of_attrs (attrs_of l.a.entries);
}

abbrev pub invariant-shared_entries-merge : goal.invariant-shared_entries-merge
invariant-shared_entries-merge l = IsMerge (shared (attrs_of l.a.entries) (attrs_of l.b.entries)) (attrs_of l.a.entries) l.kept.entries (pending l.first l.left) (pending l.second l.right)

abbrev pub decreases-shared_entries-merge : goal.decreases-shared_entries-merge
decreases-shared_entries-merge l = length (pending l.first l.left) + length (pending l.second l.right)
