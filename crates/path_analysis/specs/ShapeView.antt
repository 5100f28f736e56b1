-- The shape that a shape in code is.
use Rattle.std.specs.Prelude.{ℕ, ◌+◌, max, List, [], ◌∷◌}
use Rattle.reads_spec.specs.Paths.{Shape, no_shape, at_path, set_shape, record_shape, one_of, FieldShapes, no_field_shapes, field_shape}
use Rattle.path_analysis.specs.declared.shape.ShapeKind.{ShapeKind}
use Rattle.path_analysis.specs.declared.shape.ShapeKind.TheVariants.{Nothing, Path, Set, Record, OneOf}

-- the shape of a result that comes from one of several
abbrev pub one_of_all : List Shape → Shape
one_of_all [] = no_shape
one_of_all (a ∷ bs) = one_of a (one_of_all bs)

-- the fields that the entries of a map are
abbrev pub field_shapes : List (List ℕ × Shape) → FieldShapes
field_shapes [] = no_field_shapes
field_shapes (e ∷ es) = field_shape e.0 e.1 (field_shapes es)

abbrev pub shape_in : ShapeKind → Shape
shape_in Nothing = no_shape
shape_in (Path p) = at_path p
shape_in (Set xs) = set_shape (one_of_all xs.items)
shape_in (Record m) = record_shape (field_shapes m.entries)
shape_in (OneOf a b) = one_of a.value b.value

-- how deep a shape is
abbrev mutual
  pub size_of : Shape → ℕ
  size_of no_shape = 1
  size_of (at_path p) = 1
  size_of (set_shape a) = size_of a + 1
  size_of (record_shape fs) = size_of_fields fs + 1
  size_of (one_of a b) = max (size_of a) (size_of b) + 1

  pub size_of_fields : FieldShapes → ℕ
  size_of_fields no_field_shapes = 0
  size_of_fields (field_shape k a fs) = max (size_of a) (size_of_fields fs)
