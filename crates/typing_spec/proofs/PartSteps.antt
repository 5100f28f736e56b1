-- Steps of loops over the parts of a set.
use Rattle.std.proofs.Common.{◌≡◌, ℕ, ◌+◌, ◌<◌, ◌&&◌, ◌||◌, List, [], ◌∷◌, ◌++◌, length, get_or, drop, take, refl, ap, ◌∙◌, append-nil}
use Rattle.std.proofs.lemmas.List.{at_drop_more}
use Rattle.std.proofs.lemmas.List.Elements.{filter-append}
use Rattle.std.proofs.lemmas.Grind.{take_at_read, flat_map-append}
use Rattle.std.proofs.lemmas.List.Folds.{list_any-append, list_all-append}
use Rattle.typing_spec.specs.Capability.{Capability, is_alike, has_cap, common, is_covered, is_nothing, together}

pub has_more : (ps : List (List Capability)) (i : ℕ) (d : List Capability) (k : Capability) → i < length ps →
    has_cap (together (drop i ps)) k ≡ (has_cap (get_or ps i d) k || has_cap (together (drop (i + 1) ps)) k)
has_more ps i d k h =
    at_drop_more (λ qs. has_cap (together qs) k) ps i d h ∙ list_any-append (is_alike k) (get_or ps i d) (together (drop (i + 1) ps))

none_in_both : (xs ys : List Capability) → is_nothing (xs ++ ys) ≡ (is_nothing xs && is_nothing ys)
none_in_both [] ys = refl
none_in_both (x ∷ xs) ys = refl

pub none_more : (ps : List (List Capability)) (i : ℕ) (d : List Capability) → i < length ps →
    is_nothing (together (drop i ps)) ≡ (is_nothing (get_or ps i d) && is_nothing (together (drop (i + 1) ps)))
none_more ps i d h =
    at_drop_more (λ qs. is_nothing (together qs)) ps i d h ∙ none_in_both (get_or ps i d) (together (drop (i + 1) ps))

pub covered_more : (ps : List (List Capability)) (i : ℕ) (d cs : List Capability) → i < length ps →
    is_covered (together (drop i ps)) cs ≡ (is_covered (get_or ps i d) cs && is_covered (together (drop (i + 1) ps)) cs)
covered_more ps i d cs h =
    at_drop_more (λ qs. is_covered (together qs) cs) ps i d h ∙ list_all-append (has_cap cs) (get_or ps i d) (together (drop (i + 1) ps))

pub together_push : (ps : List (List Capability)) (p : List Capability) → together (ps ++ p ∷ []) ≡ together ps ++ p
together_push ps p = flat_map-append (λ q. q) ps (p ∷ []) ∙ ap (λ r. together ps ++ r) (append-nil p)

pub together_more : (ps : List (List Capability)) (i : ℕ) (d : List Capability) → i < length ps → together (take (i + 1) ps) ≡ together (take i ps) ++ get_or ps i d
together_more ps i d h = ap together (take_at_read ps i d h).1 ∙ together_push (take i ps) (get_or ps i d)

pub common_more : (ps : List (List Capability)) (i : ℕ) (d cs : List Capability) → i < length ps →
    common (together (take (i + 1) ps)) cs ≡ common (together (take i ps)) cs ++ common (get_or ps i d) cs
common_more ps i d cs h = ap (λ xs. common xs cs) (together_more ps i d h) ∙ filter-append (has_cap cs) (together (take i ps)) (get_or ps i d)
