-- Expressions of one shape.
use Rattle.std.proofs.Common.{◌≡◌, List, [], ◌∷◌, length, refl, ap, suc}
use Rattle.policy_expressions.specs.Tree.{Tree, trees_of}
use Rattle.policy_expressions.specs.Shape.{SameShapes}

module _ {A B : Type 0} where
  pub length-SameShapes : (xs : List (Tree A)) (us : List (Tree B)) → SameShapes (trees_of xs) (trees_of us) → length xs ≡ length us
  length-SameShapes [] [] h = refl
  length-SameShapes [] (u ∷ us) h = absurd h
  length-SameShapes (x ∷ xs) [] h = absurd h
  length-SameShapes (x ∷ xs) (u ∷ us) h = ap (λ n. suc n) (length-SameShapes xs us h.1)
