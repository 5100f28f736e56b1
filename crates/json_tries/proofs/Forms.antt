-- The places of what is read.
use Rattle.std.proofs.Common.{◌≡◌, MatchOption, is_some, false, ℕ, zero, suc, min, ◌<◌, ◌≤◌, ◌+◌, ◌⊎◌, inl, inr, Bool, true, List, [], ◌∷◌, ◌++◌, map, Option, Some, None, option_map, length, drop, get_or, refl, sym, ap, ◌∙◌, arith, drop-cons}
use Rattle.std.proofs.lemmas.Bool.{cases_lt}
use Rattle.std.proofs.lemmas.List.{append-nil, append_assoc}
use Rattle.access_tries.specs.declared.edge.Edge.{Edge}
use Rattle.access_tries.specs.declared.edge.Edge.TheVariants.{AnyTag}
use Rattle.access_tries.specs.Trees.{Branch, Branches, no_branches, leading}
use Rattle.json_tries.specs.Places.{Place, behind, places_of, places_in}
use Rattle.json_tries.specs.Parts.{led_places, node_places}
use Rattle.json_tries.specs.Reading.{led_to, entries_form, joined, node_form}
use Rattle.plain_lemmas.proofs.Lists.{empty_of_length}

-- the next of two lists
pub led_step : (es : List Edge) (ps : List (List Place)) (i : ℕ) (e : Edge) (p : List Place) (all new whole : List Place) → i < length es → i < length ps → e ≡ get_or es i e → p ≡ get_or ps i p → new ≡ all ++ map (behind e) p
    → all ++ led_places (drop i es) (drop i ps) ≡ whole → new ++ led_places (drop (i + 1) es) (drop (i + 1) ps) ≡ whole
led_step es ps i e p all new whole h k ie ip is inv =
    let next : suc i ≡ i + 1 = omega arith in
    ap (λ xs. xs ++ led_places (drop (i + 1) es) (drop (i + 1) ps)) is
    ∙ append_assoc all (map (behind e) p) (led_places (drop (i + 1) es) (drop (i + 1) ps))
    ∙ sym (ap (λ xs. all ++ led_places xs (drop i ps)) (drop-cons es i e h ∙ ap (λ x. x ∷ drop (suc i) es) (sym ie) ∙ ap (λ n. e ∷ drop n es) next)
    ∙ ap (λ xs. all ++ led_places (e ∷ drop (i + 1) es) xs) (drop-cons ps i p k ∙ ap (λ x. x ∷ drop (suc i) ps) (sym ip) ∙ ap (λ n. p ∷ drop n ps) next))
    ∙ inv

none_left : {X : Type 0} (xs : List X) (n : ℕ) → length xs ≤ n → drop n xs ≡ []
none_left [] zero h = refl
none_left [] (suc n) h = refl
none_left (x ∷ xs) zero h = absurd (omega (arith, h))
none_left (x ∷ xs) (suc n) h = none_left xs n (omega (arith, h))

led_nowhere : (es : List Edge) → led_places es [] ≡ []
led_nowhere [] = refl
led_nowhere (e ∷ es) = refl

places_led : (es : List Edge) (bs : List Branch) → places_in (led_to es bs) ≡ led_places es (map places_of bs)
places_led [] bs = refl
places_led (e ∷ es) [] = refl
places_led (e ∷ es) (b ∷ bs) = ap (λ ps. map (behind e) (places_of b) ++ ps) (places_led es bs)

pub entries_places : (es : List Edge) (bs : Option (List Branch)) → option_map places_in (entries_form (Some es) bs) ≡ option_map (led_places es) (option_map (map places_of) bs)
entries_places es None = refl
entries_places es (Some bs) = ap Some (places_led es bs)

places_joined : (bs cs : Branches) → places_in (joined bs cs) ≡ places_in bs ++ places_in cs
places_joined no_branches cs = refl
places_joined (leading e b bs) cs = ap (λ ps. map (behind e) (places_of b) ++ ps) (places_joined bs cs) ∙ sym (append_assoc (map (behind e) (places_of b)) (places_in bs) (places_in cs))

pub node_places_of : (m : Option Bool) (fs ts rs : Option Branches) → option_map places_of (node_form true m fs ts rs) ≡ node_places m (option_map places_in fs) (option_map places_in ts) (option_map places_in rs)
node_places_of None fs ts rs = refl
node_places_of (Some m) None ts rs = refl
node_places_of (Some m) (Some fs) None rs = refl
node_places_of (Some m) (Some fs) (Some ts) None = refl
node_places_of (Some m) (Some fs) (Some ts) (Some rs) = ap (λ ps. Some (([], m) ∷ ps)) (places_joined fs (joined ts rs) ∙ ap (λ ps. places_in fs ++ ps) (places_joined ts rs))

pub tags_places : (b : Option Branch) → option_map places_in (option_map (λ c. leading AnyTag c no_branches) b) ≡ option_map (λ ps. map (behind AnyTag) ps) (option_map places_of b)
tags_places None = refl
tags_places (Some b) = ap Some (append-nil (map (behind AnyTag) (places_of b)))

-- where one of two lists is at its end
pub led_done : (es : List Edge) (ps : List (List Place)) (n : ℕ) → min (length es) (length ps) ≤ n → led_places (drop n es) (drop n ps) ≡ []
led_done es ps n h = by (cases_lt (length es) (length ps)) where
  by : (length es < length ps) ⊎ (length ps ≤ length es) → led_places (drop n es) (drop n ps) ≡ []
  by (inl lt) = ap (λ xs. led_places xs (drop n ps)) (none_left es n (omega (arith, h, lt)))
  by (inr ge) = ap (led_places (drop n es)) (none_left ps n (omega (arith, h, ge))) ∙ led_nowhere (drop n es)

-- a node is made of what its parts are read as
pub node_read : (o : Option (List Place)) (m : Option Bool) (fs ts rs : Option (List Place)) (mark : Option Bool) (fields tags roots : Option Branches) (named : Bool) (whole : Option Branch) →
    o ≡ node_places m fs ts rs → m ≡ mark → fs ≡ option_map places_in fields → ts ≡ option_map places_in tags → rs ≡ option_map places_in roots → named ≡ true → whole ≡ node_form named mark fields tags roots → o ≡ option_map places_of whole
node_read o m fs ts rs mark fields tags roots named whole h em ef et er en ew =
    h
    ∙ ap (λ x. node_places x fs ts rs) em
    ∙ ap (λ x. node_places mark x ts rs) ef
    ∙ ap (λ x. node_places mark (option_map places_in fields) x rs) et
    ∙ ap (λ x. node_places mark (option_map places_in fields) (option_map places_in tags) x) er
    ∙ sym (node_places_of mark fields tags roots)
    ∙ sym (ap (option_map places_of) (ew ∙ ap (λ b. node_form b mark fields tags roots) en))

pub none_there : {X : Type 0} (o : Option X) (P : Type 0) (Q : X → Type 0) → MatchOption o P Q → is_some o ≡ false → P
none_there None P Q h e = h
none_there (Some x) P Q h e = cc
