-- What a shape holds is smaller than the shape.
use Rattle.std.specs.Prelude.{ℕ, ◌+◌, ◌≤◌, List, [], ◌∷◌, map}
use Rattle.std.proofs.Common.{arith}
use denote.Param.Weighed.{most}
use Rattle.reads_spec.specs.Paths.{Shape}
use Rattle.path_analysis.specs.ShapeView.{one_of_all, field_shapes, shape_in, size_of, size_of_fields}
use Rattle.path_analysis.specs.declared.shape.ShapeKind.{ShapeKind}
use Rattle.path_analysis.specs.declared.shape.ShapeKind.TheVariants.{Nothing, Path, Set, Record, OneOf}
use Rattle.path_analysis.specs.declared.shape.Shape.TheInside.{Inside}
use Rattle.path_analysis.specs.declared.shape.Shape.TheDeep.{deep-Shape, deep-ShapeKind}

most_le-size : (xs : List Shape) → most (λ x. size_of x + 1) xs ≤ size_of (one_of_all xs) + 1
most_le-size [] = omega arith
most_le-size (x ∷ xs) = omega (arith, most_le-size xs)

most_le-fields : (es : List (List ℕ × Shape)) →
    most (λ x. size_of x + 1) (map (λ e. e.1) es) ≤ size_of_fields (field_shapes es) + 1
most_le-fields [] = omega arith
most_le-fields (e ∷ es) = omega (arith, most_le-fields es)

kind_falls : (k : ShapeKind) → deep-ShapeKind k ≤ size_of (shape_in k)
kind_falls Nothing = omega arith
kind_falls (Path p) = omega arith
kind_falls (Set xs) = omega (arith, most_le-size xs.items)
kind_falls (Record m) = omega (arith, most_le-fields m.entries)
kind_falls (OneOf a b) = omega arith

pub falls : (a : Inside) → deep-Shape a ≤ size_of (shape_in a.kind)
falls a = omega (arith, kind_falls a.kind)
