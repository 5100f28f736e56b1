-- What is in a set, and is added again.
use Rattle.std.proofs.Common.{◌≡◌, List, [], ◌∷◌, ap, refl, Bool, true, ◌||◌}
use Rattle.std.specs.List.{list_any, AllByRecursion}
use Rattle.std.specs.declared.cmp.Ordering.{Ordering}
use Rattle.std.specs.declared.cmp.Ordering.TheVariants.{Less, Equal, Greater}
use Rattle.std.specs.Ordering.{match_ordering, is_eq}
use Rattle.std.specs.BTreeSet.{insert_key}
use Rattle.std.specs.BTreeMap.{is_at}
use Rattle.std.specs.Cmp.{IsTotalOrder}
use Rattle.std.specs.List.Sorted.{IsStrictlySortedBy}
use Rattle.access_tries.specs.Paths.{AccessPath, path_cmp}
use Rattle.access_tries.specs.PathLaws.{path_total}

module _ {K : Type 0} {cmp : K → K → Ordering} (o : IsTotalOrder cmp) (k : K) where
  level : (r : Ordering) (b : Bool) → r ≡ Less → (is_eq r || b) ≡ true → b ≡ true
  level Less b e h = h
  level Equal b e h = cc
  level Greater b e h = cc

  none_above : (x : K) (xs : List K) → cmp k x ≡ Less → AllByRecursion (λ y. cmp x y ≡ Less) xs → list_any (is_at (cmp k)) xs ≡ true → ⊥
  none_above x [] lt h is = cc
  none_above x (y ∷ ys) lt h is = none_above x ys lt h.1 (level (cmp k y) (list_any (is_at (cmp k)) ys) (o.trans k x y lt h.0) is)

  stays_turn : (x : K) (xs ys : List K) (r : Ordering) → cmp k x ≡ r → AllByRecursion (λ y. cmp x y ≡ Less) xs → (list_any (is_at (cmp k)) xs ≡ true → xs ≡ ys) → (is_eq r || list_any (is_at (cmp k)) xs) ≡ true →
      x ∷ xs ≡ match_ordering r (k ∷ x ∷ xs) (x ∷ xs) (x ∷ ys)
  stays_turn x xs ys Less e below more is = absurd (none_above x xs e below is)
  stays_turn x xs ys Equal e below more is = refl
  stays_turn x xs ys Greater e below more is = ap (λ zs. x ∷ zs) (more is)

  stays : (ks : List K) → IsStrictlySortedBy cmp ks → list_any (is_at (cmp k)) ks ≡ true → ks ≡ insert_key cmp ks k
  unfolding IsStrictlySortedBy
  stays [] h is = cc
  stays (x ∷ xs) h is = stays_turn x xs (insert_key cmp xs k) (cmp k x) refl h.0 (stays xs h.1) is

-- a set that has a path stays as it is, if the path is added
pub path_stays : (ps : List AccessPath) (p : AccessPath) → IsStrictlySortedBy path_cmp ps → list_any (is_at (path_cmp p)) ps ≡ true → ps ≡ insert_key path_cmp ps p
path_stays ps p h is = stays path_total p ps h is
