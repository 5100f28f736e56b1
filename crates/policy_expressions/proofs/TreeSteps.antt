-- Steps of loops over expressions.
use Rattle.std.proofs.Common.{◌≡◌, ℕ, zero, suc, ◌+◌, ◌<◌, ◌≤◌, List, [], ◌∷◌, max, length, get_or, drop, arith, subst, sym}
use Rattle.std.proofs.lemmas.List.{at_drop_more, at_drop_all}
use Rattle.policy_expressions.specs.Tree.{Tree, depth_of, deepest, trees_of}

module _ {A : Type 0} where
  pub deepest_more : (xs : List (Tree A)) (i : ℕ) (d : Tree A) → i < length xs → deepest (trees_of (drop i xs)) ≡ max (depth_of (get_or xs i d)) (deepest (trees_of (drop (i + 1) xs)))
  deepest_more = at_drop_more (λ xs. deepest (trees_of xs))

  pub deepest_all : (xs : List (Tree A)) (i : ℕ) → length xs ≤ i → deepest (trees_of (drop i xs)) ≡ 0
  deepest_all = at_drop_all (λ xs. deepest (trees_of xs))

  -- no element is deeper than all together
  pub depth_of-get_or : (xs : List (Tree A)) (i : ℕ) (d : Tree A) → i < length xs → depth_of (get_or xs i d) ≤ deepest (trees_of xs)
  depth_of-get_or [] i d h = absurd (omega arith)
  depth_of-get_or (x ∷ xs) zero d h = omega arith
  depth_of-get_or (x ∷ xs) (suc i) d h = omega (arith, depth_of-get_or xs i d (omega arith))

  -- in the form that the call on an element of a loop asks
  pub depth_in : (xs ys : List (Tree A)) (i : ℕ) (x : Tree A) → x ≡ get_or xs i x → xs ≡ ys → i < length xs → depth_of x ≤ deepest (trees_of ys)
  depth_in xs ys i x is same h =
      subst (λ zs. depth_of x ≤ deepest (trees_of zs)) same (subst (λ z. depth_of z ≤ deepest (trees_of xs)) (sym is) (depth_of-get_or xs i x h))
