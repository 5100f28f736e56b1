-- The names of members that are given ascend.
use Rattle.std.proofs.Common.{◌≡◌, ℕ, List, [], ◌∷◌, map, Bor, nat_cmp}
use Rattle.std.specs.Cmp.Lexicographic.{slice_cmp}
use Rattle.std.specs.declared.cmp.Ordering.TheVariants.{Less}
use Rattle.std.specs.List.{AllByRecursion}
use Rattle.std.specs.List.Sorted.{IsStrictlySortedBy}
use Rattle.policy_values.specs.Uid.{text_cmp}

below_names : (k : Bor (List ℕ)) (ks : List (Bor (List ℕ))) → AllByRecursion (λ l. slice_cmp nat_cmp k.now l.now ≡ Less) ks → AllByRecursion (λ t. text_cmp k.now t ≡ Less) (map (λ b. b.now) ks)
below_names k [] h = tt
below_names k (l ∷ ks) h = (h.0, below_names k ks h.1)

pub sorted_names : (ks : List (Bor (List ℕ))) → IsStrictlySortedBy (λ x y. slice_cmp nat_cmp x.now y.now) ks → IsStrictlySortedBy text_cmp (map (λ b. b.now) ks)
unfolding IsStrictlySortedBy
sorted_names [] h = tt
sorted_names (k ∷ ks) h = (below_names k ks h.0, sorted_names ks h.1)
