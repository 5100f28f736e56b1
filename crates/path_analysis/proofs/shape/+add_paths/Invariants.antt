use Rattle.std.proofs.Common.{◌≡◌, ◌≤◌, ◌+◌, ◌*◌, ◌++◌, drop}
use Rattle.reads_spec.specs.Paths.{paths, field_paths}
use Rattle.path_analysis.specs.ShapeView.{one_of_all, field_shapes, size_of, size_of_fields}
use Rattle.path_analysis.proofs.shape.+add_paths.Given as goal

abbrev pub decreases-add_paths : goal.decreases-add_paths
decreases-add_paths l = 2 * size_of l.shape.now

abbrev pub decreases-add_paths_of_all : goal.decreases-add_paths_of_all
decreases-add_paths_of_all l = 2 * size_of (one_of_all l.items.now.items) + 1

abbrev pub decreases-add_paths_of_fields : goal.decreases-add_paths_of_fields
decreases-add_paths_of_fields l = 2 * size_of_fields (field_shapes l.fields.now.entries) + 1

-- what was found, and what is left
abbrev pub invariant-add_paths_of_all-loop-item : goal.invariant-add_paths_of_all-loop-item
invariant-add_paths_of_all-loop-item l = l.found.items ++ paths (one_of_all (drop l.item-index l.items.items)) ≡ l.fn.found.items ++ paths (one_of_all l.items.items)

abbrev pub invariant-add_paths_of_fields-loop-value : goal.invariant-add_paths_of_fields-loop-value
invariant-add_paths_of_fields-loop-value l =
    (l.found.items ++ field_paths (field_shapes l.value-iterator) ≡ l.fn.found.items ++ field_paths (field_shapes l.fields.entries))
    × (size_of_fields (field_shapes l.value-iterator) ≤ size_of_fields (field_shapes l.fields.entries))
