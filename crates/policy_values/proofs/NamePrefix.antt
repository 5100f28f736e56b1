-- A name begins with a component, and goes on behind two colons if at all.
use Rattle.std.proofs.Common.{◌≡◌, ◌≢◌, ℕ, suc, ◌<◌, List, [], ◌∷◌, ◌++◌, length, slice_index, EachIndex, arith, ap, sym, subst, ◌∙◌, refl, inl, inr, codes}
use Rattle.std.specs.Prelude.{◌⊎◌, ◌↔◌}
use Rattle.policy_values.specs.Name.{IsTail, IsComponent, IsName, last, then, IsPrefix}

abbrev AllTail : List ℕ → Type 0
AllTail word = EachIndex word (λ k. IsTail (slice_index word k))

abbrev EndsRun : List ℕ → Type 0
EndsRun left = 0 < length left → IsTail (slice_index left 0) → ⊥

starts : (left : List ℕ) (c : ℕ) (t : List ℕ) → left ≡ c ∷ t → IsTail c → EndsRun left → ⊥
starts left c t e h end = subst EndsRun e end (omega arith) h

-- a list is cut in one way where a run of word bytes ends
prefixes_agree : (word left cs x : List ℕ) → AllTail word → EndsRun left → AllTail cs → EndsRun x → word ++ left ≡ cs ++ x → (word ≡ cs) × (left ≡ x)
prefixes_agree [] left [] x a b c d e = (refl, e)
prefixes_agree [] left (y ∷ cs) x a b c d e = absurd (starts left y (cs ++ x) e (c 0 (omega arith)) b)
prefixes_agree (w ∷ ws) left [] x a b c d e = absurd (starts x w (ws ++ left) (sym e) (a 0 (omega arith)) d)
prefixes_agree (w ∷ ws) left (y ∷ cs) x a b c d e =
    let tails : ws ++ left ≡ cs ++ x = cc in
    let heads : w ≡ y = cc in
    let r = prefixes_agree ws left cs x (λ k h. a (suc k) (omega arith)) b (λ k h. c (suc k) (omega arith)) d tails in
    ((λ i. heads i ∷ r.0 i), r.1)

colon_ends : IsTail 58 → ⊥
colon_ends (inl (inl p)) = omega arith
colon_ends (inl (inr (inl p))) = omega arith
colon_ends (inl (inr (inr p))) = omega arith
colon_ends (inr p) = omega arith

append-nil : (s : List ℕ) → s ++ [] ≡ s
append-nil [] = refl
append-nil (x ∷ s) = ap (λ t. x ∷ t) (append-nil s)

-- how a name goes on behind its first component
abbrev pub GoesOn : List ℕ → Type 0
GoesOn left = (left ≡ []) ⊎ ((rest : List ℕ) × (left ≡ codes "::" ++ rest) × IsName rest)

pub name_prefix : (s word left : List ℕ) → IsPrefix s word left → IsName s → IsComponent word × GoesOn left
name_prefix s word left f (last cs c) =
    let r = prefixes_agree word left cs [] f.each f.end c.each (λ h. absurd (omega arith)) (sym f.whole ∙ sym (append-nil cs)) in
    (subst IsComponent (sym r.0) c, inl r.1)
name_prefix s word left f (then cs rest c n) =
    let r = prefixes_agree word left cs (codes "::" ++ rest) f.each f.end c.each (λ h. colon_ends) (sym f.whole) in
    (subst IsComponent (sym r.0) c, inr (rest, r.1, n))

pub name_from_prefix : (s word left : List ℕ) → IsPrefix s word left → IsComponent word → GoesOn left → IsName s
name_from_prefix s word left f c (inl e) =
    subst IsName (sym (f.whole ∙ ap (λ l. word ++ l) e ∙ append-nil word)) (last word c)
name_from_prefix s word left f c (inr r) =
    subst IsName (sym (f.whole ∙ ap (λ l. word ++ l) r.1)) (then word r.0 c r.2)

pub name_step : (s word left next : List ℕ) → IsPrefix s word left → IsComponent word → left ≡ codes "::" ++ next → IsName s ↔ IsName next
name_step s word left next f c e = (λ n. on_next (name_prefix s word left f n).1, λ n. name_from_prefix s word left f c (inr (next, e, n)))
  where
    on_next : GoesOn left → IsName next
    on_next (inl d) = absurd (from_nil (sym d ∙ e))
      where
        from_nil : [] ≡ codes "::" ++ next → ⊥
        from_nil p = cc
    on_next (inr r) = subst IsName (same (sym r.1 ∙ e)) r.2
      where
        same : codes "::" ++ r.0 ≡ codes "::" ++ next → r.0 ≡ next
        same p = cc

pub name_stops : (s word left : List ℕ) → IsPrefix s word left → left ≢ [] → ((rest : List ℕ) → left ≢ codes "::" ++ rest) → IsName s → ⊥
name_stops s word left f a b n = elim (name_prefix s word left f n).1 [ inl e ↦ a e | inr r ↦ b r.0 r.1 ]

pub no_length : (l : List ℕ) → length l ≡ 0 → l ≡ []
no_length [] e = refl
no_length (x ∷ l) e = absurd (omega arith)
