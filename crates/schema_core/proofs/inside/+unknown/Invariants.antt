use Rattle.std.proofs.Common.{◌≡◌, ◌+◌, ◌*◌, ◌≤◌}
use Rattle.std.specs.Option.{option_copied}
use Rattle.schema_types.specs.Ty.{size_of, size_of_attrs}
use Rattle.schema_types.specs.TyView.{kind_of, attrs_of}
use Rattle.schema_core.specs.Lowest.{lowest_within, unknown_next}
use Rattle.schema_core.proofs.inside.+unknown.Given as goal

abbrev pub decreases-unknown_in : goal.decreases-unknown_in
decreases-unknown_in l = 3 * size_of_attrs l.a.now + 2

abbrev pub decreases-unknown_in_type : goal.decreases-unknown_in_type
decreases-unknown_in_type l = 3 * size_of l.t.now + 1

abbrev pub decreases-unknown_in_part : goal.decreases-unknown_in_part
decreases-unknown_in_part l = 3 * size_of (kind_of l.k.now)

-- what is left, from what is found
abbrev pub invariant-unknown_in-loop-x : goal.invariant-unknown_in-loop-x
invariant-unknown_in-loop-x l = record {
  left : lowest_within unknown_next (option_copied l.low) (attrs_of l.x-iterator) ≡ lowest_within unknown_next (option_copied l.fn.low) l.a;
  size : size_of_attrs (attrs_of l.x-iterator) ≤ size_of_attrs l.a;
}
