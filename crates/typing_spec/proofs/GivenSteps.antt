-- Steps of loops that give capabilities to a set.
use Rattle.std.proofs.Common.{◌≡◌, ℕ, ◌+◌, ◌<◌, Bool, true, false, ◌||◌, List, [], ◌∷◌, ◌++◌, length, get_or, take, refl, sym, ap, ◌∙◌, if◌then◌else◌}
use Rattle.std.specs.List.{filter}
use Rattle.std.specs.Borrow.{Bor}
use Rattle.std.proofs.lemmas.List.Folds.{list_any-append}
use Rattle.std.proofs.lemmas.List.Elements.{filter-append}
use Rattle.indexmap.specs.IndexSet.{insert_key}
use Rattle.plain_lemmas.proofs.Booleans.{or_assoc, or_false}
use Rattle.typing_spec.specs.Capability.{Capability, is_alike, has_cap, common, together}
use Rattle.typing_spec.specs.CapabilityLaws.{alike_equiv}
use Rattle.typing_spec.specs.Recovered.{lends}
use Rattle.typing_spec.proofs.PartSteps.{together_more}

-- what is given is given of all that is alike
gives_alike : (rs : List (Bor Capability)) (k m : Capability) → is_alike k m ≡ true → lends rs k ≡ lends rs m
gives_alike [] k m same = refl
gives_alike (r ∷ rs) k m same = (λ j. alike_equiv.congr k m r.now same j || gives_alike rs k m same j)

-- what is given once one more is given
gives_next : (rs : List (Bor Capability)) (r : Bor Capability) (k : Capability) →
    lends (insert_key (λ a b. is_alike a.now b.now) rs r) k ≡ (lends rs k || is_alike k r.now)
gives_next rs r k = by (lends rs r.now) refl (is_alike k r.now) refl
  where
    by : (b : Bool) → lends rs r.now ≡ b → (c : Bool) → is_alike k r.now ≡ c →
        lends (insert_key (λ a b. is_alike a.now b.now) rs r) k ≡ (lends rs k || is_alike k r.now)
    by false h c same =
        ap (λ b. lends (if b then rs else rs ++ r ∷ []) k) h ∙ list_any-append (λ s. is_alike k s.now) rs (r ∷ []) ∙
        ap (λ b. lends rs k || b) (or_false (is_alike k r.now))
    by true h false same =
        ap (λ b. lends (if b then rs else rs ++ r ∷ []) k) h ∙ sym (or_false (lends rs k)) ∙ ap (λ b. lends rs k || b) (sym same)
    by true h true same =
        ap (λ b. lends (if b then rs else rs ++ r ∷ []) k) h ∙ gives_alike rs k r.now same ∙ h ∙
        sym (ap (λ b. b || is_alike k r.now) (gives_alike rs k r.now same ∙ h))

-- and what is left of a list, when its first item is given
pub given_left : (rs : List (Bor Capability)) (r : Bor Capability) (cs : List Capability) (k : Capability) →
    (lends (insert_key (λ a b. is_alike a.now b.now) rs r) k || has_cap cs k) ≡ (lends rs k || has_cap (r.now ∷ cs) k)
given_left rs r cs k =
    ap (λ b. b || has_cap cs k) (gives_next rs r k) ∙ or_assoc (lends rs k) (is_alike k r.now) (has_cap cs k)

-- what is given of one more part
pub given_more : (ps : List (List Capability)) (i : ℕ) (d : List Capability) (rs : List (Bor Capability)) → i < length ps →
    filter (lends rs) (together (take (i + 1) ps)) ≡ filter (lends rs) (together (take i ps)) ++ filter (lends rs) (get_or ps i d)
given_more ps i d rs h =
    ap (filter (lends rs)) (together_more ps i d h) ∙ filter-append (lends rs) (together (take i ps)) (get_or ps i d)

-- what is given decides what is common
pub common_given : (cs ds : List Capability) (rs : List (Bor Capability)) → ((k : Capability) → lends rs k ≡ has_cap ds k) →
    filter (lends rs) cs ≡ common cs ds
common_given cs ds rs same = ap (λ p. filter p cs) (λ j k. same k j)
