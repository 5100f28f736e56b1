-- Walks through the entries of a map.
use Rattle.std.proofs.Common.{◌≡◌, ℕ, Bool, true, false, ◌||◌, ◌↔◌, inl, inr, List, [], ◌∷◌, Option, Some, None, IsTrue, refl, sym, ◌∙◌}
use Rattle.std.specs.Prelude.{cond}
use Rattle.std.specs.List.{AllByRecursion}
use Rattle.std.specs.List.Sorted.{IsStrictlySortedBy}
use Rattle.std.specs.Map.{keys_of}
use Rattle.std.specs.Option.{IsSomeAnd}
use Rattle.std.specs.Ordering.{is_eq}
use Rattle.std.specs.declared.cmp.Ordering.{Ordering}
use Rattle.std.specs.declared.cmp.Ordering.TheVariants.{Less}
use Rattle.std.specs.Cmp.{IsTotalOrder, tied_itself}
use Rattle.std.proofs.lemmas.Bool.{or_cases, or_left, or_right, false≢true}
use Rattle.std.proofs.lemmas.Map.Keys.{sorted_head, sorted_tail}
use Rattle.std.proofs.lemmas.Map.Lookups.{CmpEqualImpliesEq}
use Rattle.std.proofs.lemmas.Map.Views.{tells_apart}
use Rattle.policy_values.specs.Least.{IsLeastIfAny}
use Rattle.policy_values.specs.Reaches.{at, has}
use Rattle.policy_values.proofs.Least.{least_here}
use Rattle.schema_core.proofs.Lowest.{Low, With, with_both, low_same, low_none}

-- the first key whose value passes
abbrev pub first_key : {A V : Type 0} → (V → Bool) → List (A × V) → Option A
first_key p [] = None
first_key p (e ∷ es) = cond (p e.1) (Some e.0) (first_key p es)

-- the lowest of what the values have
abbrev pub lowest_at : {A V : Type 0} → (Option (List ℕ) → V → Option (List ℕ)) → Option (List ℕ) → List (A × V) → Option (List ℕ)
lowest_at f low [] = low
lowest_at f low (e ∷ es) = lowest_at f (f low e.1) es

-- whether the value of some entry passes
abbrev pub some_entry : {A V : Type 0} → (V → Bool) → List (A × V) → Bool
some_entry p [] = false
some_entry p (e ∷ es) = p e.1 || some_entry p es

module _ {A V : Type 0} {cmp : A → A → Ordering} (o : IsTotalOrder cmp) (exact : CmpEqualImpliesEq cmp) where
  -- a lower key has no entry
  none_below : (k : A) (es : List (A × V)) → AllByRecursion (λ y. cmp k y ≡ Less) (keys_of es) → at cmp es k ≡ None
  none_below k [] all = refl
  none_below k (e ∷ es) all = rw all.0 (none_below k es all.1)

  -- an entry is found under its key
  entry_there : (p : V → Bool) (es : List (A × V)) → IsStrictlySortedBy cmp (keys_of es) → IsTrue (some_entry p es) → (x : A) × IsSomeAnd (at cmp es x) (λ v. IsTrue (p v))
  entry_there p [] sorted h = absurd (false≢true h)
  entry_there p (e ∷ es) sorted h = elim (or_cases (p e.1) (some_entry p es) h) [
    | inl here ↦ (e.0, rw (tied_itself o e.0) here)
    | inr later ↦ behind (entry_there p es (sorted_tail cmp e.0 (keys_of es) sorted) later)
  ] where
    behind : (x : A) × IsSomeAnd (at cmp es x) (λ v. IsTrue (p v)) → (x : A) × IsSomeAnd (at cmp (e ∷ es) x) (λ v. IsTrue (p v))
    behind (x, there) = (x, by_test (is_eq (cmp x e.0)) refl) where
      by_test : (b : Bool) → is_eq (cmp x e.0) ≡ b → IsSomeAnd (cond b (Some e.1) (at cmp es x)) (λ v. IsTrue (p v))
      by_test true is = absurd (rw (tells_apart exact x e.0 is, none_below e.0 es (sorted_head cmp e.0 (keys_of es) sorted)) at there)
      by_test false is = there

  entry_here : (p : V → Bool) (es : List (A × V)) (x : A) → IsSomeAnd (at cmp es x) (λ v. IsTrue (p v)) → IsTrue (some_entry p es)
  entry_here p [] x h = absurd h
  entry_here p (e ∷ es) x h = by_test (is_eq (cmp x e.0)) (entry_here p es x) h where
    by_test : (b : Bool) → (IsSomeAnd (at cmp es x) (λ v. IsTrue (p v)) → IsTrue (some_entry p es)) → IsSomeAnd (cond b (Some e.1) (at cmp es x)) (λ v. IsTrue (p v)) → IsTrue (p e.1 || some_entry p es)
    by_test true later there = or_left (p e.1) (some_entry p es) there
    by_test false later there = or_right (p e.1) (some_entry p es) (later there)

  -- some value passes where one under a key does
  pub some_entry_at : (p : V → Bool) (es : List (A × V)) → IsStrictlySortedBy cmp (keys_of es) → IsTrue (some_entry p es) ↔ ((x : A) × IsSomeAnd (at cmp es x) (λ v. IsTrue (p v)))
  some_entry_at p es sorted = (entry_there p es sorted, λ h. entry_here p es h.0 h.1)

  -- a key with an entry is at the first one or later
  key_later : (p : V → Bool) (e : A × V) (es : List (A × V)) (x : A) → p e.1 ≡ false → IsSomeAnd (at cmp (e ∷ es) x) (λ v. IsTrue (p v)) → IsSomeAnd (at cmp es x) (λ v. IsTrue (p v))
  key_later p e es x not h = by_test (is_eq (cmp x e.0)) h where
    by_test : (b : Bool) → IsSomeAnd (cond b (Some e.1) (at cmp es x)) (λ v. IsTrue (p v)) → IsSomeAnd (at cmp es x) (λ v. IsTrue (p v))
    by_test true there = absurd (false≢true (sym not ∙ there))
    by_test false there = there

  has_key : (es : List (A × V)) (p : V → Bool) (x : A) → IsSomeAnd (at cmp es x) (λ v. IsTrue (p v)) → has cmp (keys_of es) x ≡ true
  has_key [] p x h = absurd h
  has_key (e ∷ es) p x h = by_test (is_eq (cmp x e.0)) (has_key es p x) h where
    by_test : (b : Bool) → (IsSomeAnd (at cmp es x) (λ v. IsTrue (p v)) → has cmp (keys_of es) x ≡ true) → IsSomeAnd (cond b (Some e.1) (at cmp es x)) (λ v. IsTrue (p v)) → (b || has cmp (keys_of es) x) ≡ true
    by_test true later there = refl
    by_test false later there = later there

  -- the first key whose value passes is the least
  pub first_key_least : (p : V → Bool) (es : List (A × V)) → IsStrictlySortedBy cmp (keys_of es) → IsLeastIfAny cmp (λ x. IsSomeAnd (at cmp es x) (λ v. IsTrue (p v))) (first_key p es)
  first_key_least p [] sorted = λ x h. h
  first_key_least p (e ∷ es) sorted = by_test (p e.1) refl (first_key_least p es (sorted_tail cmp e.0 (keys_of es) sorted)) where
    later : p e.1 ≡ false → (r : Option A) → IsLeastIfAny cmp (λ x. IsSomeAnd (at cmp es x) (λ v. IsTrue (p v))) r → IsLeastIfAny cmp (λ x. IsSomeAnd (at cmp (e ∷ es) x) (λ v. IsTrue (p v))) r
    later not None none = λ x h. none x (key_later p e es x not h)
    later not (Some k) l = record {
      holds = at_later (is_eq (cmp k e.0)) refl;
      least = λ x h. l.least x (key_later p e es x not h);
    } where
      at_later : (b : Bool) → is_eq (cmp k e.0) ≡ b → IsSomeAnd (cond b (Some e.1) (at cmp es k)) (λ v. IsTrue (p v))
      at_later true is = absurd (rw (tells_apart exact k e.0 is, none_below e.0 es (sorted_head cmp e.0 (keys_of es) sorted)) at l.holds)
      at_later false is = l.holds

    by_test : (b : Bool) → p e.1 ≡ b → IsLeastIfAny cmp (λ x. IsSomeAnd (at cmp es x) (λ v. IsTrue (p v))) (first_key p es) → IsLeastIfAny cmp (λ x. IsSomeAnd (at cmp (e ∷ es) x) (λ v. IsTrue (p v))) (cond b (Some e.0) (first_key p es))
    by_test true is rest = least_here o exact (λ x. IsSomeAnd (at cmp (e ∷ es) x) (λ v. IsTrue (p v))) e.0 (keys_of es) (record { ordered = sorted; among = has_key (e ∷ es) p }) (rw (tied_itself o e.0) is)
    by_test false is rest = later is (first_key p es) rest

-- the lowest of what entries have
module _ {A V : Type 0} (passes : List ℕ → Bool) (f : Option (List ℕ) → V → Option (List ℕ)) (named : List ℕ → V → Bool) (step : (P : List ℕ → Type 0) (low : Option (List ℕ)) (v : V) → Low P low → Low (With P passes (λ q. named q v)) (f low v)) where
  pub lowest_least : (P : List ℕ → Type 0) (low : Option (List ℕ)) (es : List (A × V)) → Low P low → Low (With P passes (λ q. some_entry (named q) es)) (lowest_at f low es)
  lowest_least P low [] l = low_none P passes low l
  lowest_least P low (e ∷ es) l =
      low_same _ (With P passes (λ q. some_entry (named q) (e ∷ es))) (with_both P passes (λ q. named q e.1) (λ q. some_entry (named q) es)) (lowest_at f (f low e.1) es)
      (lowest_least (With P passes (λ q. named q e.1)) (f low e.1) es (step P low e.1 l))
