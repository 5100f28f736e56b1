use Rattle.std.proofs.Common.{◌≡◌, ◌≤◌, ◌+◌, ◌*◌, drop}
use Rattle.reads_spec.specs.Paths.{paths, field_paths}
use Rattle.reads_spec.specs.Reads.{with_step}
use Rattle.path_analysis.specs.PathOrder.{with_paths}
use Rattle.path_analysis.specs.ShapeView.{one_of_all, field_shapes, size_of, size_of_fields}
use Rattle.path_analysis.proofs.shape.+add_longer.Given as goal

abbrev pub decreases-add_longer : goal.decreases-add_longer
decreases-add_longer l = 2 * size_of l.shape.now

abbrev pub decreases-add_longer_of_all : goal.decreases-add_longer_of_all
decreases-add_longer_of_all l = 2 * size_of (one_of_all l.items.now.items) + 1

abbrev pub decreases-add_longer_of_fields : goal.decreases-add_longer_of_fields
decreases-add_longer_of_fields l = 2 * size_of_fields (field_shapes l.fields.now.entries) + 1

-- what was found, and what is left
abbrev pub invariant-add_longer_of_all-loop-item : goal.invariant-add_longer_of_all-loop-item
invariant-add_longer_of_all-loop-item l = with_paths l.reads.keys (with_step (paths (one_of_all (drop l.item-index l.items.items)))) ≡ with_paths l.fn.reads.keys (with_step (paths (one_of_all l.items.items)))

abbrev pub invariant-add_longer_of_fields-loop-value : goal.invariant-add_longer_of_fields-loop-value
invariant-add_longer_of_fields-loop-value l =
    (with_paths l.reads.keys (with_step (field_paths (field_shapes l.value-iterator))) ≡ with_paths l.fn.reads.keys (with_step (field_paths (field_shapes l.fields.entries))))
    × (size_of_fields (field_shapes l.value-iterator) ≤ size_of_fields (field_shapes l.fields.entries))
