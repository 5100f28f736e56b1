-- What is kept of an ascending list.
use Rattle.std.proofs.Common.{◌≡◌, ℕ, ◌+◌, ◌<◌, Bool, true, false, ◌||◌, ◌&&◌, cond, List, [], ◌∷◌, ◌++◌, length, map, take, get_or, refl, sym, ◌∙◌, ap}
use Rattle.std.specs.List.{filter}
use Rattle.std.specs.List.Sorted.{IsStrictlySortedBy}
use Rattle.std.specs.BTreeMap.{is_at}
use Rattle.std.specs.Ordering.{is_eq}
use Rattle.std.specs.declared.cmp.Ordering.{Ordering}
use Rattle.std.specs.Cmp.{IsTotalOrder}
use Rattle.std.proofs.lemmas.Bool.{false≢true}
use Rattle.std.proofs.lemmas.Cmp.{eq_by_cmp_equiv}
use Rattle.std.proofs.lemmas.List.{take_more, map-append}
use Rattle.std.proofs.lemmas.List.Folds.{list_any-append}
use Rattle.std.proofs.lemmas.List.Kept.{IsStrictlySortedBy-filter}
use Rattle.std.proofs.lemmas.Map.Lookups.{CmpEqualImpliesEq}
use Rattle.std.proofs.lemmas.Map.Views.{tells_apart}
use Rattle.policy_values.specs.Reaches.{has}
use Rattle.policy_values.proofs.SameSorted.{same_sorted}

kept_step : (a b d h h' : Bool) → (a ≡ true → d ≡ b) → h' ≡ (d && h) → cond b (a || h') h' ≡ (d && (a || h))
kept_step true true true h h' e i = refl
kept_step true true false h h' e i = absurd (false≢true (e refl))
kept_step true false false h h' e i = i
kept_step true false true h h' e i = absurd (false≢true (sym (e refl)))
kept_step false true d h h' e i = i
kept_step false false d h h' e i = i

within : (a b : Bool) → (a ≡ true → b ≡ true) → (a && b) ≡ a
within true b h = h refl
within false b h = refl

-- one more key, that is kept, or not
more_kept : (a d h h' : Bool) → (a ≡ true → d ≡ true) → h' ≡ (d && h) → cond a true h' ≡ (d && (h || (a || false)))
more_kept true true true h' e i = refl
more_kept true true false h' e i = refl
more_kept true false h h' e i = absurd (false≢true (e refl))
more_kept false true true h' e i = i
more_kept false true false h' e i = i
more_kept false false h h' e i = i

more_left : (a d h h' : Bool) → (a ≡ true → d ≡ false) → h' ≡ (d && h) → h' ≡ (d && (h || (a || false)))
more_left true true h h' e i = absurd (false≢true (sym (e refl)))
more_left true false h h' e i = i
more_left false true true h' e i = i
more_left false true false h' e i = i
more_left false false h h' e i = i

module _ {K : Type 0} {cmp : K → K → Ordering} (o : IsTotalOrder cmp) (exact : CmpEqualImpliesEq cmp) (p : K → Bool) where
  prefix : (b : Bool) (k : K) (ks : List K) (q : K) → p k ≡ b → has cmp (filter p ks) q ≡ (p q && has cmp ks q) → has cmp (filter p (k ∷ ks)) q ≡ (p q && has cmp (k ∷ ks) q)
  prefix true k ks q h i = rw h (kept_step (is_at (cmp q) k) true (p q) (has cmp ks q) (has cmp (filter p ks) q) (λ a. ap p (tells_apart exact q k a) ∙ h) i)
  prefix false k ks q h i = rw h (kept_step (is_at (cmp q) k) false (p q) (has cmp ks q) (has cmp (filter p ks) q) (λ a. ap p (tells_apart exact q k a) ∙ h) i)

  has_kept : (ks : List K) (q : K) → has cmp (filter p ks) q ≡ (p q && has cmp ks q)
  has_kept [] q = both_false (p q) where
    both_false : (b : Bool) → false ≡ (b && false)
    both_false true = refl
    both_false false = refl
  has_kept (k ∷ ks) q = prefix (p k) k ks q refl (has_kept ks q)

  -- an ascending set that has the keys that are kept is what is kept
  pub kept_is : (ks set : List K) → IsStrictlySortedBy cmp ks → IsStrictlySortedBy cmp set → ((q : K) → has cmp set q ≡ (p q && has cmp ks q)) → set ≡ filter p ks
  kept_is ks set rise up same = same_sorted cmp o exact set (filter p ks) up (IsStrictlySortedBy-filter cmp p ks rise) (λ q. same q ∙ sym (has_kept ks q))

  pub kept_within : (ks set : List K) → IsStrictlySortedBy cmp ks → IsStrictlySortedBy cmp set → ((q : K) → has cmp set q ≡ p q) → ((q : K) → p q ≡ true → has cmp ks q ≡ true) → set ≡ filter p ks
  kept_within ks set rise up same inside = kept_is ks set rise up (λ q. same q ∙ sym (within (p q) (has cmp ks q) (inside q)))

  -- the set has what is kept of the names
  pub record HasKept (names set : List K) : Type 0 where
    pub ordered : IsStrictlySortedBy cmp set
    pub keys : (q : K) → has cmp set q ≡ (p q && has cmp names q)

  module _ {X : Type 0} (name : X → K) where
    next : (xs : List X) (i : ℕ) (x : X) → i < length xs → x ≡ get_or xs i x → map name (take (i + 1) xs) ≡ map name (take i xs) ++ name x ∷ []
    next xs i x lt item = ap (map name) (take_more xs i x lt ∙ rw (← item) refl) ∙ map-append name (take i xs) (x ∷ [])

    pub kept_more : (xs : List X) (i : ℕ) (x : X) (set set' : List K) → i < length xs → x ≡ get_or xs i x → HasKept (map name (take i xs)) set → p (name x) ≡ true → IsStrictlySortedBy cmp set'
        → ((q : K) → has cmp set' q ≡ cond (is_eq (cmp (name x) q)) true (has cmp set q))
        → HasKept (map name (take (i + 1) xs)) set'
    kept_more xs i x set set' lt item t is up h = rw (next xs i x lt item) (record {
      ordered = up;
      keys = λ q.
          h q ∙ rw (list_any-append (is_at (cmp q)) (map name (take i xs)) (name x ∷ []), (eq_by_cmp_equiv o).symm (name x) q)
          (more_kept (is_at (cmp q) (name x)) (p q) (has cmp (map name (take i xs)) q) (has cmp set q) (λ a. ap p (tells_apart exact q (name x) a) ∙ is) (t.keys q));
    })

    pub kept_left : (xs : List X) (i : ℕ) (x : X) (set : List K) → i < length xs → x ≡ get_or xs i x → HasKept (map name (take i xs)) set → p (name x) ≡ false → HasKept (map name (take (i + 1) xs)) set
    kept_left xs i x set lt item t is = rw (next xs i x lt item) (record {
      ordered = t.ordered;
      keys = λ q.
          rw (list_any-append (is_at (cmp q)) (map name (take i xs)) (name x ∷ []))
          (more_left (is_at (cmp q) (name x)) (p q) (has cmp (map name (take i xs)) q) (has cmp set q) (λ a. ap p (tells_apart exact q (name x) a) ∙ is) (t.keys q));
    })
