-- Where the places of a tree lead.
use Rattle.std.proofs.Common.{◌≡◌, Bool, true, false, ◌&&◌, ◌||◌, List, [], ◌∷◌, map, refl, ap, ◌∙◌}
use Rattle.std.specs.List.{list_any}
use Rattle.std.proofs.lemmas.List.Folds.{list_any-append}
use Rattle.access_tries.specs.declared.edge.Edge.{Edge}
use Rattle.access_tries.specs.Edges.{Address, edge_eq}
use Rattle.access_tries.specs.Paths.{is_prefix_of, is_same}
use Rattle.access_tries.specs.Trees.{Branch, branch, Branches, no_branches, leading, passes, some_passes}
use Rattle.json_tries.specs.Places.{Place, behind, places_of, places_in}
use Rattle.json_tries.specs.Laws.{PlacesLead}
use Rattle.plain_lemmas.proofs.Booleans.{and_exchange, or_false}

-- whether the test passes for one of the places
abbrev prefix_of : Address → Place → Bool
prefix_of es p = is_prefix_of es p.0

abbrev same_of : Address → Place → Bool
same_of es p = p.1 && is_same es p.0

prefix_behind : (x e : Edge) (es : Address) (ps : List Place) → list_any (prefix_of (e ∷ es)) (map (behind x) ps) ≡ (edge_eq x e && list_any (prefix_of es) ps)
prefix_behind x e es ps = by (edge_eq x e) refl ps where
  by : (b : Bool) → edge_eq x e ≡ b → (qs : List Place) → list_any (prefix_of (e ∷ es)) (map (behind x) qs) ≡ (b && list_any (prefix_of es) qs)
  by true h [] = refl
  by false h [] = refl
  by true h (q ∷ qs) = ap (λ b. (b && is_prefix_of es q.0) || list_any (prefix_of (e ∷ es)) (map (behind x) qs)) h ∙ ap (λ b. is_prefix_of es q.0 || b) (by true h qs)
  by false h (q ∷ qs) = ap (λ b. (b && is_prefix_of es q.0) || list_any (prefix_of (e ∷ es)) (map (behind x) qs)) h ∙ by false h qs

same_behind : (x e : Edge) (es : Address) (ps : List Place) → list_any (same_of (e ∷ es)) (map (behind x) ps) ≡ (edge_eq x e && list_any (same_of es) ps)
same_behind x e es ps = by (edge_eq x e) refl ps where
  by : (b : Bool) → edge_eq x e ≡ b → (qs : List Place) → list_any (same_of (e ∷ es)) (map (behind x) qs) ≡ (b && list_any (same_of es) qs)
  by true h [] = refl
  by false h [] = refl
  by true h (q ∷ qs) = ap (λ b. (q.1 && (b && is_same es q.0)) || list_any (same_of (e ∷ es)) (map (behind x) qs)) h ∙ ap (λ b. (q.1 && is_same es q.0) || b) (by true h qs)
  by false h (q ∷ qs) = ap (λ b. b || list_any (same_of (e ∷ es)) (map (behind x) qs)) (and_exchange q.1 (edge_eq x e) (is_same es q.0) ∙ ap (λ b. b && (q.1 && is_same es q.0)) h) ∙ by false h qs

prefix_start : (ps : List Place) (p : Place) → list_any (prefix_of []) (p ∷ ps) ≡ true
prefix_start ps p = refl

none_same : (x : Edge) (ps : List Place) → list_any (same_of []) (map (behind x) ps) ≡ false
none_same x [] = refl
none_same x (p ∷ ps) = ap (λ b. b || list_any (same_of []) (map (behind x) ps)) (and_no p.1) ∙ none_same x ps
  where
    and_no : (a : Bool) → (a && false) ≡ false
    and_no true = refl
    and_no false = refl

none_same_in : (bs : Branches) → list_any (same_of []) (places_in bs) ≡ false
none_same_in no_branches = refl
none_same_in (leading x b bs) = list_any-append (same_of []) (map (behind x) (places_of b)) (places_in bs) ∙ ap (λ c. c || list_any (same_of []) (places_in bs)) (none_same x (places_of b)) ∙ none_same_in bs

abbrev any : Bool → Bool
any m = true

abbrev own : Bool → Bool
own m = m

mutual
  prefixes : (b : Branch) (es : Address) → list_any (prefix_of es) (places_of b) ≡ passes any b es
  prefixes (branch m bs) [] = refl
  prefixes (branch m bs) (e ∷ es) = prefixes_in bs e es

  prefixes_in : (bs : Branches) (e : Edge) (es : Address) → list_any (prefix_of (e ∷ es)) (places_in bs) ≡ some_passes any bs e es
  prefixes_in no_branches e es = refl
  prefixes_in (leading x b bs) e es =
      list_any-append (prefix_of (e ∷ es)) (map (behind x) (places_of b)) (places_in bs)
      ∙ ap (λ c. c || list_any (prefix_of (e ∷ es)) (places_in bs)) (prefix_behind x e es (places_of b) ∙ ap (λ c. edge_eq x e && c) (prefixes b es))
      ∙ ap (λ c. (edge_eq x e && passes any b es) || c) (prefixes_in bs e es)

mutual
  sames : (b : Branch) (es : Address) → list_any (same_of es) (places_of b) ≡ passes own b es
  sames (branch m bs) [] = ap (λ c. (m && true) || c) (none_same_in bs) ∙ or_false (m && true) ∙ and_true m
    where
      and_true : (a : Bool) → (a && true) ≡ a
      and_true true = refl
      and_true false = refl
  sames (branch m bs) (e ∷ es) = ap (λ c. c || list_any (same_of (e ∷ es)) (places_in bs)) (and_no m) ∙ sames_in bs e es
    where
      and_no : (a : Bool) → (a && false) ≡ false
      and_no true = refl
      and_no false = refl

  sames_in : (bs : Branches) (e : Edge) (es : Address) → list_any (same_of (e ∷ es)) (places_in bs) ≡ some_passes own bs e es
  sames_in no_branches e es = refl
  sames_in (leading x b bs) e es =
      list_any-append (same_of (e ∷ es)) (map (behind x) (places_of b)) (places_in bs)
      ∙ ap (λ c. c || list_any (same_of (e ∷ es)) (places_in bs)) (same_behind x e es (places_of b) ∙ ap (λ c. edge_eq x e && c) (sames b es))
      ∙ ap (λ c. (edge_eq x e && passes own b es) || c) (sames_in bs e es)

pub places_lead : PlacesLead
places_lead = record {
  paths = λ bs t is e es. is.paths (e ∷ es) ∙ prefixes_in bs e es;
  marks = λ bs t is e es. is.marks (e ∷ es) ∙ sames_in bs e es;
}
