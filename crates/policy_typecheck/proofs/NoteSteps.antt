-- Lists of expressions with the same notes are equally long.
use Rattle.std.proofs.Common.{◌≡◌, List, [], ◌∷◌, length, refl, ap, suc}
use Rattle.policy_expressions.specs.Tree.{Tree, Mark, trees_of}
use Rattle.policy_typecheck.specs.Equal.{SameOfTrees}

pub length-SameOfTrees : {T : Type 0} → (xs us : List (Tree (Mark T))) → SameOfTrees (trees_of xs) (trees_of us) → length xs ≡ length us
length-SameOfTrees [] [] h = refl
length-SameOfTrees [] (u ∷ us) h = absurd h
length-SameOfTrees (x ∷ xs) [] h = absurd h
length-SameOfTrees (x ∷ xs) (u ∷ us) h = ap (λ n. suc n) (length-SameOfTrees xs us h.1)
