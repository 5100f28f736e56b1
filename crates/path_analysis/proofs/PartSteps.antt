-- The shapes of parts.
use Rattle.std.proofs.Common.{◌≡◌, ℕ, List, [], ◌∷◌, map, refl}
use Rattle.policy_expressions.specs.Tree.{Tree, trees_of, named_of}
use Rattle.reads_spec.specs.Paths.{one_of, field_shape}
use Rattle.reads_spec.specs.Reads.{shape_of, shape_of_all, shapes_of_named}
use Rattle.path_analysis.specs.ShapeView.{one_of_all, field_shapes}
use Rattle.path_analysis.specs.Parts.{shaped}

module _ {A : Type 0} where
  pub shapes_of_all : (xs : List (Tree A)) → one_of_all (map shape_of xs) ≡ shape_of_all (trees_of xs)
  shapes_of_all [] = refl
  shapes_of_all (x ∷ xs) = λ i. one_of (shape_of x) (shapes_of_all xs i)

  pub shapes_of_fields : (es : List (List ℕ × Tree A)) → field_shapes (map shaped es) ≡ shapes_of_named (named_of es)
  shapes_of_fields [] = refl
  shapes_of_fields (e ∷ es) = λ i. field_shape e.0 (shape_of e.1) (shapes_of_fields es i)
