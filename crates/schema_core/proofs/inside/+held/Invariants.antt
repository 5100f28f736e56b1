use Rattle.std.proofs.Common.{◌≡◌, ◌+◌, ◌*◌, ◌≤◌}
use Rattle.schema_types.specs.Ty.{size_of, size_of_attrs}
use Rattle.schema_types.specs.TyView.{kind_of, attrs_of}
use Rattle.schema_core.specs.Inside.{are_held}
use Rattle.schema_core.proofs.inside.+held.Given as goal

abbrev pub decreases-are_held : goal.decreases-are_held
decreases-are_held l = 3 * size_of_attrs l.a.now + 2

abbrev pub decreases-is_held : goal.decreases-is_held
decreases-is_held l = 3 * size_of l.t.now + 1

abbrev pub decreases-is_held_part : goal.decreases-is_held_part
decreases-is_held_part l = 3 * size_of (kind_of l.k.now)

-- what is left decides
abbrev pub invariant-are_held-loop-x : goal.invariant-are_held-loop-x
invariant-are_held-loop-x l = record {
  left : are_held (attrs_of l.x-iterator) ≡ are_held l.a;
  size : size_of_attrs (attrs_of l.x-iterator) ≤ size_of_attrs l.a;
}
