-- Keys that stand twice in a list that grows.
use Rattle.std.proofs.Common.{◌≡◌, ℕ, ◌<◌, ◌↔◌, ◌⊎◌, inl, inr, List, [], ◌∷◌, ◌++◌, length, take, Some, None, Contains, refl, sym, ◌∙◌, ap, arith, length-append}
use Rattle.std.specs.List.{slice_get}
use Rattle.std.specs.Option.{IsSomeAnd}
use Rattle.std.proofs.lemmas.List.{take-append-le, get_or_push}
use Rattle.std.proofs.lemmas.Option.{slice_get_cases, slice_get_within, slice_get-get_or}
use Rattle.std.proofs.Math.ListN.{get_or-append}
use Rattle.std.proofs.Math.Seq.{take-append_seam}
use Rattle.policy_values.specs.Repeated.{IsRepeated, StandsEarlier}

module _ {K : Type 0} where
  slice_get-append : (ys zs : List K) (i : ℕ) (d : K) → i < length ys → slice_get (ys ++ zs) i ≡ slice_get ys i
  slice_get-append ys zs i d lt =
      slice_get-get_or (ys ++ zs) i d (omega (arith, length-append ys zs)) ∙ ap Some (get_or-append ys zs d i lt) ∙ sym (slice_get-get_or ys i d lt)

  slice_get-push : (ys : List K) (x : K) → slice_get (ys ++ x ∷ []) (length ys) ≡ Some x
  slice_get-push ys x = slice_get-get_or (ys ++ x ∷ []) (length ys) x (omega (arith, length-append ys (x ∷ []))) ∙ ap Some (get_or_push ys x x (length ys) refl)

  pub repeated_append : (ys zs : List K) (q : K) → IsRepeated ys q → IsRepeated (ys ++ zs) q
  repeated_append ys zs q (i, at, earlier) =
      let lt : i < length ys = slice_get_within ys i q at in
      (i, slice_get-append ys zs i q lt ∙ at, rw (take-append-le i ys zs (omega arith)) earlier)

  -- one key more: it is repeated where the list has it
  pub repeated_push : (ys : List K) (x q : K) → (IsRepeated ys q ⊎ ((q ≡ x) × Contains ys x)) ↔ IsRepeated (ys ++ x ∷ []) q
  repeated_push ys x q = (to, from) where
    to : IsRepeated ys q ⊎ ((q ≡ x) × Contains ys x) → IsRepeated (ys ++ x ∷ []) q
    to (inl r) = repeated_append ys (x ∷ []) q r
    to (inr (same, earlier)) = (length ys, slice_get-push ys x ∙ ap Some (sym same), rw (take-append_seam ys (x ∷ []), same) earlier)

    from : IsRepeated (ys ++ x ∷ []) q → IsRepeated ys q ⊎ ((q ≡ x) × Contains ys x)
    from (i, at, earlier) =
        elim (slice_get_cases ys i).1 [
          | inl (y, lt, here, _) ↦ inl (i, sym (slice_get-append ys (x ∷ []) i x lt) ∙ at, rw (take-append-le i ys (x ∷ []) (omega arith)) at earlier)
          | inr (past, _) ↦
              let end : i ≡ length ys = omega (arith, slice_get_within (ys ++ x ∷ []) i q at, length-append ys (x ∷ [])) in
              let last : Some q ≡ Some x = sym at ∙ ap (slice_get (ys ++ x ∷ [])) end ∙ slice_get-push ys x in
              let same : q ≡ x = cc in
              inr (same, rw (end, take-append_seam ys (x ∷ []), same) at earlier)
        ]

  -- the key at a place whose key stands earlier
  pub earlier_at : (xs : List K) (i : ℕ) → StandsEarlier xs i → (k : K) × (slice_get xs i ≡ Some k) × Contains (take i xs) k
  earlier_at xs i h = elim (slice_get xs i) as (λ r. IsSomeAnd r (Contains (take i xs)) → (k : K) × (r ≡ Some k) × Contains (take i xs) k) [
    | None ↦ λ never. absurd never
    | Some k ↦ λ earlier. (k, refl, earlier)
  ] h

  pub earlier_within : (xs : List K) (i : ℕ) → StandsEarlier xs i → i < length xs
  earlier_within xs i h = let (k, at, _) = earlier_at xs i h in slice_get_within xs i k at
