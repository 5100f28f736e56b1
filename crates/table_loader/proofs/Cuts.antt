-- What is left of fields where each is kept whole or not at all: look-ups, and keys that ascend.
use Rattle.std.proofs.Common.{◌≡◌, ℕ, Bool, true, false, List, [], ◌∷◌, Option, Some, None, refl, sym, ap, ◌∙◌, subst}
use Rattle.std.specs.Prelude.{if◌then◌else◌}
use Rattle.std.specs.Option.{option_map}
use Rattle.std.specs.Ordering.{is_eq}
use Rattle.policy_values.specs.Uid.{text_cmp}
use Rattle.policy_values.specs.Value.{Val, Fields, no_fields, field, field_at}
use Rattle.table_loader.specs.Order.{IsBelowAll, AreOrdered}
use Rattle.table_loader.specs.OrderLaws.{KeysAscend}
use Rattle.reads_spec.specs.Paths.{Chain}
use Rattle.reads_spec.specs.Restrict.{cut, cut_fields}
use Rattle.reads_spec.proofs.Cuts.{cut_all, field_at-cut}
use Rattle.reads_spec.proofs.Lists.{same_text}
use Rattle.plain_lemmas.proofs.Booleans.{not_both}

-- a choice of whole fields: below a field that is kept all is kept
pub record IsOfWholeFields (k : Chain → Bool) : Type 0 where
  pub below : (n : List ℕ) (c : Chain) → k (n ∷ c) ≡ k (n ∷ [])

not_found : (fs : Fields) (k : Chain → Bool) (n : List ℕ) → k (n ∷ []) ≡ false → field_at (cut_fields fs k) n ≡ None
not_found no_fields k n h = refl
not_found (field m v fs) k n h = by (k (m ∷ [])) refl (is_eq (text_cmp n m)) refl (not_found fs k n h)
  where
    by : (c : Bool) → k (m ∷ []) ≡ c → (b : Bool) → is_eq (text_cmp n m) ≡ b → field_at (cut_fields fs k) n ≡ None →
        field_at (if c then field m (cut v (λ d. k (m ∷ d))) (cut_fields fs k) else cut_fields fs k) n ≡ None
    by true e true same rest =
        absurd (not_both (k (n ∷ [])) (subst (λ x. k (x ∷ []) ≡ true) (sym (same_text n m same)) e) h)
    by true e false other rest = rw other rest
    by false e b other rest = rest

-- a value that is kept whole
cut-whole : (k : Chain → Bool) (n : List ℕ) → IsOfWholeFields k → k (n ∷ []) ≡ true → (v : Val) → cut v (λ c. k (n ∷ c)) ≡ v
cut-whole k n t h v =
    let all : cut v (λ c. k (n ∷ c)) ≡ cut v (λ c. true) = λ i. cut v (λ c. (t.below n c ∙ h) i) in
    all ∙ cut_all v

option_map-same : (f : Val → Val) → ((v : Val) → f v ≡ v) → (o : Option Val) → option_map f o ≡ o
option_map-same f same None = refl
option_map-same f same (Some v) = ap (λ w. Some w) (same v)

-- look-ups find the fields that are kept, whole, and no others
pub field_at-whole : (k : Chain → Bool) → IsOfWholeFields k → (fs : Fields) (n : List ℕ) →
    field_at (cut_fields fs k) n ≡ (if k (n ∷ []) then field_at fs n else None)
field_at-whole k t fs n = by (k (n ∷ [])) refl
  where
    by : (b : Bool) → k (n ∷ []) ≡ b → field_at (cut_fields fs k) n ≡ (if b then field_at fs n else None)
    by true h = field_at-cut fs k n h ∙ option_map-same (λ w. cut w (λ c. k (n ∷ c))) (cut-whole k n t h) (field_at fs n)
    by false h = not_found fs k n h

below_cut : (m : List ℕ) (fs : Fields) (k : Chain → Bool) → IsBelowAll m fs → IsBelowAll m (cut_fields fs k)
below_cut m no_fields k h = tt
below_cut m (field n v fs) k h = by (k (n ∷ [])) (below_cut m fs k h.1)
  where
    by : (b : Bool) → IsBelowAll m (cut_fields fs k) → IsBelowAll m (if b then field n (cut v (λ c. k (n ∷ c))) (cut_fields fs k) else cut_fields fs k)
    by true rest = (h.0, rest)
    by false rest = rest

pub ascending-cut : (fs : Fields) (k : Chain → Bool) → AreOrdered fs → KeysAscend (cut_fields fs k)
ascending-cut no_fields k h = tt
ascending-cut (field n v fs) k h = by (k (n ∷ [])) (below_cut n fs k h.0) (ascending-cut fs k h.2)
  where
    by : (b : Bool) → IsBelowAll n (cut_fields fs k) → KeysAscend (cut_fields fs k) → KeysAscend (if b then field n (cut v (λ c. k (n ∷ c))) (cut_fields fs k) else cut_fields fs k)
    by true first rest = (first, rest)
    by false first rest = rest

-- all fields, where the choice is the same for each
pub cut-each : (k : Chain → Bool) (b : Bool) → IsOfWholeFields k → ((n : List ℕ) → k (n ∷ []) ≡ b) → (fs : Fields) →
    cut_fields fs k ≡ (if b then fs else no_fields)
cut-each k true t each no_fields = refl
cut-each k true t each (field n v fs) =
    rw (each n) (λ i. field n (cut-whole k n t (each n) v i) (cut-each k true t each fs i))
cut-each k false t each no_fields = refl
cut-each k false t each (field n v fs) = rw (each n) (cut-each k false t each fs)
