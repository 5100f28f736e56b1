-- The end of the loop over arguments.
use Rattle.std.proofs.Common.{◌≡◌, List, [], ◌∷◌, length, refl, arith}
use Rattle.policy_expressions.specs.Tree.{Trees, no_trees, tree, Mark}
use Rattle.schema_types.specs.Ty.{Ty}
use Rattle.typecheck_rules.specs.Operators.{arguments_fitting}

pub none_left : {A : Type 0} → (xs : List A) → length xs ≡ 0 → xs ≡ []
none_left [] h = refl
none_left (x ∷ xs) h = absurd (omega (arith, h))

pub nothing_fits : (ts : List Ty) (xs : Trees (Mark (Unit {0}))) → arguments_fitting ts xs [] ≡ []
nothing_fits [] xs = refl
nothing_fits (t ∷ ts) no_trees = refl
nothing_fits (t ∷ ts) (tree x xs) = refl
