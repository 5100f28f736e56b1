-- What a search finds among the elements of a set.
use Rattle.std.proofs.Common.{◌≡◌, ℕ, zero, suc, ◌<◌, ◌==◌, true, false, List, [], ◌∷◌, length, get_or, add-one, inl, inr, refl, arith}
use Rattle.std.specs.declared.cmp.Ordering.TheVariants.{Less, Equal, Greater}
use Rattle.std.specs.Ordering.{is_eq, ordering_index}
use Rattle.std.specs.List.Sorted.{IsNonDecreasingBy, IsPartitionPoint}
use Rattle.std.proofs.lemmas.Bool.{cases_lt, or_right}
use Rattle.std.proofs.lemmas.Cmp.{tied_itself, eq_by_cmp_equiv}
use Rattle.std.proofs.lemmas.List.Sorted.{searchable_from_sorted}
use Rattle.policy_values.specs.Value.{Val, vals_of}
use Rattle.policy_values.specs.ValueOrder.{val_cmp, Ascends}
use Rattle.policy_values.specs.ValueLaws.{exact_val, val_cmp_total}
use Rattle.policy_values.specs.Sets.{is_empty, is_element}

pub is_empty_by_length : (ws : List Val) → is_empty (vals_of ws) ≡ (length ws == 0)
is_empty_by_length [] = refl
is_empty_by_length (w ∷ ws) = grind arith

-- the place that has the value
pub found_here : (v : Val) (ws : List Val) (i : ℕ) (d : Val) → i < length ws → val_cmp (get_or ws i d) v ≡ Equal → is_element v (vals_of ws) ≡ true
found_here v [] i d h e = absurd (omega arith)
found_here v (w ∷ ws) zero d h e = rw (exact_val w v e, tied_itself val_cmp_total v) refl
found_here v (w ∷ ws) (suc i) d h e = or_right (is_eq (val_cmp v w)) _ (found_here v ws i d (omega arith) e)

-- no place has it
none_found : (v : Val) (ws : List Val) → ((k : ℕ) (d : Val) → k < length ws → is_eq (val_cmp v (get_or ws k d)) ≡ false) → is_element v (vals_of ws) ≡ false
none_found v [] none = refl
none_found v (w ∷ ws) none = rw (none 0 w (omega arith)) (none_found v ws (λ k d h. none (suc k) d (omega arith)))

pub found_nowhere : (v : Val) (ws : List Val) (i : ℕ) → IsPartitionPoint (λ y. val_cmp y v ≡ Less) (λ y. val_cmp y v ≡ Greater) ws i → is_element v (vals_of ws) ≡ false
found_nowhere v ws i parts = none_found v ws (λ k d h. elim (cases_lt k i) [
  | inl below ↦ rw ((eq_by_cmp_equiv val_cmp_total).symm v (get_or ws k d), parts.0 k d (omega arith) below) refl
  | inr above ↦ rw ((eq_by_cmp_equiv val_cmp_total).symm v (get_or ws k d), parts.1 k d above h) refl
])

next_is_above : (ws : List Val) (k : ℕ) (d : Val) → Ascends (vals_of ws) → suc k < length ws → val_cmp (get_or ws k d) (get_or ws (suc k) d) ≡ Less
next_is_above [] k d up h = absurd (omega arith)
next_is_above (w ∷ []) k d up h = absurd (omega arith)
next_is_above (w ∷ x ∷ ws) zero d up h = up.0
next_is_above (w ∷ x ∷ ws) (suc k) d up h = next_is_above (x ∷ ws) k d up.1 (omega arith)

-- along the elements the answers of a comparison rise
pub answers_rise : (v : Val) (ws : List Val) → Ascends (vals_of ws) → IsNonDecreasingBy (λ y. ordering_index (val_cmp y v)) ws
answers_rise v ws up = searchable_from_sorted val_cmp_total (λ y. y) ws v (λ k d _ h.
    rw (add-one, val_cmp_total.antisymm (get_or ws (suc k) d) (get_or ws k d), next_is_above ws k d up (omega arith)) refl)
