-- Actions that meet what a scope asks.
use Rattle.std.proofs.Common.{◌≡◌, ℕ, ◌+◌, ◌<◌, ◌⊎◌, inl, inr, Bool, true, false, ◌||◌, ◌&&◌, List, [], ◌∷◌, ◌++◌, map, filter, length, take, get_or, cond, Some, None, refl, sym, ap, ◌∙◌, subst, arith}
use Rattle.std.specs.Prelude.{is_some}
use Rattle.std.specs.List.{AllByRecursion, find, list_all, list_any}
use Rattle.std.specs.List.Sorted.{IsStrictlySortedBy}
use Rattle.std.specs.Option.{option_to_list}
use Rattle.std.specs.declared.cmp.Ordering.TheVariants.{Less}
use Rattle.std.specs.Ordering.{is_eq}
use Rattle.std.proofs.lemmas.Bool.{false≢true}
use Rattle.std.proofs.lemmas.Cmp.{eq_by_cmp_equiv}
use Rattle.std.proofs.lemmas.List.{take_more}
use Rattle.std.proofs.lemmas.List.Elements.{filter_agree}
use Rattle.std.proofs.lemmas.List.Folds.{list_any-append}
use Rattle.std.proofs.lemmas.Map.Keys.{sorted_head, sorted_tail}
use Rattle.std.proofs.lemmas.Map.Views.{tells_apart}
use Rattle.policy_values.specs.declared.entity_uid.EntityUID.{EntityUID}
use Rattle.policy_values.specs.Uid.{uid_cmp, uid_cmp_total, uid_eq, exact_uid}
use Rattle.policy_values.specs.Reaches.{has}
use Rattle.plain_lemmas.proofs.Booleans.{or_cases, or_false, or_left_true, or_right_true}
use Rattle.policy_set.specs.declared.constraint.ActionConstraint.TheVariants.{In}
use Rattle.policy_scope.specs.Scope.{action_meets}
use Rattle.schema_core.specs.Faults.{IsSchema}
use Rattle.schema_core.specs.Schema.{ActionData, SchemaData, is_action_named, action_at, action_below}
use Rattle.schema_core.specs.Within.{is_action_within}

-- nothing is left out where all pass
pub all_stay : {X : Type 0} (xs : List X) → filter (λ x. true) xs ≡ xs
all_stay [] = refl
all_stay (x ∷ xs) = ap (λ ys. x ∷ ys) (all_stay xs)

-- nor is anything left where none passes
pub none_stays : {X : Type 0} (p : X → Bool) → ((x : X) → p x ≡ false) → (xs : List X) → filter p xs ≡ []
none_stays p fails [] = refl
none_stays p fails (x ∷ xs) = ap (λ b. cond b (x ∷ filter p xs) (filter p xs)) (fails x) ∙ none_stays p fails xs

none_behind : (u : EntityUID) (xs : List ActionData) → AllByRecursion (λ n. uid_cmp u n ≡ Less) (map (λ (a : ActionData). a.name) xs) → filter (λ (a : ActionData). uid_eq u a.name) xs ≡ []
none_behind u [] h = refl
none_behind u (x ∷ xs) h = ap (λ o. cond (is_eq o) (x ∷ filter (λ (a : ActionData). uid_eq u a.name) xs) (filter (λ (a : ActionData). uid_eq u a.name) xs)) h.0 ∙ none_behind u xs h.1

-- of what ascends, those of a name are the one that is found
pub named_alone : (u : EntityUID) (xs : List ActionData) → IsStrictlySortedBy uid_cmp (map (λ (a : ActionData). a.name) xs) → filter (λ (a : ActionData). uid_eq u a.name) xs ≡ option_to_list (find (is_action_named u) xs)
named_alone u [] sorted = refl
named_alone u (x ∷ xs) sorted = by (uid_eq u x.name) refl (named_alone u xs (sorted_tail uid_cmp x.name (map (λ (a : ActionData). a.name) xs) sorted))
  where
    names : List EntityUID
    names = map (λ (a : ActionData). a.name) xs

    kept : List ActionData
    kept = filter (λ (a : ActionData). uid_eq u a.name) xs

    by : (b : Bool) → uid_eq u x.name ≡ b → kept ≡ option_to_list (find (is_action_named u) xs) → cond b (x ∷ kept) kept ≡ option_to_list (cond b (Some x) (find (is_action_named u) xs))
    by true same later = ap (λ ys. x ∷ ys) (none_behind u xs (subst (λ n. AllByRecursion (λ m. uid_cmp n m ≡ Less) names) (sym (tells_apart exact_uid u x.name same)) (sorted_head uid_cmp x.name names sorted)))
    by false other later = later

turned : (u v : EntityUID) → is_eq (uid_cmp u v) ≡ is_eq (uid_cmp v u)
turned u v = (eq_by_cmp_equiv uid_cmp_total).symm u v

-- an id and all that is in it are added, where it is that of an action, and where it is not
pub within_action : (s : SchemaData) (u : EntityUID) (a : ActionData) → action_at s u ≡ Some a → (old mid new : List EntityUID) →
    ((q : EntityUID) → has uid_cmp mid q ≡ cond (is_eq (uid_cmp u q)) true (has uid_cmp old q)) →
    ((q : EntityUID) → has uid_cmp new q ≡ (has uid_cmp mid q || has uid_cmp a.descendants q)) →
    (q : EntityUID) → has uid_cmp new q ≡ (has uid_cmp old q || is_action_within s q u)
within_action s u a found old mid new h k q = let b = h q in let d = k q in let f = turned q u in rw found (grind arith)

pub within_other : (s : SchemaData) (u : EntityUID) → action_at s u ≡ None → (old new : List EntityUID) →
    ((q : EntityUID) → has uid_cmp new q ≡ cond (is_eq (uid_cmp u q)) true (has uid_cmp old q)) →
    (q : EntityUID) → has uid_cmp new q ≡ (has uid_cmp old q || is_action_within s q u)
within_other s u found old new h q = let b = h q in let f = turned q u in rw found (grind arith)

module _ (s : SchemaData) where
  -- what is in an action that is in another is in that one
  within_through : IsSchema s → (q u d : EntityUID) → is_action_within s q u ≡ true → is_action_within s u d ≡ true → is_action_within s q d ≡ true
  within_through ok q u d h k = by (or_cases (uid_eq q u) (action_below s q u) h) (or_cases (uid_eq u d) (action_below s u d) k)
    where
      by : (uid_eq q u ≡ true) ⊎ (action_below s q u ≡ true) → (uid_eq u d ≡ true) ⊎ (action_below s u d ≡ true) → is_action_within s q d ≡ true
      by (inl same) other = subst (λ x. is_action_within s x d ≡ true) (sym (tells_apart exact_uid q u same)) k
      by (inr below) (inl same) = subst (λ x. is_action_within s q x ≡ true) (tells_apart exact_uid u d same) h
      by (inr below) (inr above) = or_right_true (uid_eq q d) (action_below s q d) (ok.closed.actions d u q above below)

  some_within : IsSchema s → (q u : EntityUID) (ds : List EntityUID) → list_any (is_action_within s u) ds ≡ true → is_action_within s q u ≡ true → list_any (is_action_within s q) ds ≡ true
  some_within ok q u [] h k = absurd (false≢true h)
  some_within ok q u (d ∷ ds) h k = elim (or_cases (is_action_within s u d) (list_any (is_action_within s u) ds) h) [
    | inl here ↦ or_left_true (is_action_within s q d) (list_any (is_action_within s q) ds) (within_through ok q u d k here)
    | inr later ↦ or_right_true (is_action_within s q d) (list_any (is_action_within s q) ds) (some_within ok q u ds later k)
  ]

  -- the ids have what is in some of those
  abbrev pub AreWithin : List EntityUID → List EntityUID → Type 0
  AreWithin ids us = (q : EntityUID) → has uid_cmp ids q ≡ list_any (is_action_within s q) us

  -- one more of a list
  module _ (us : List EntityUID) (i : ℕ) (u : EntityUID) (lt : i < length us) (item : u ≡ get_or us i u) where
    next : (q : EntityUID) → list_any (is_action_within s q) (take (i + 1) us) ≡ (list_any (is_action_within s q) (take i us) || is_action_within s q u)
    next q =
        ap (list_any (is_action_within s q)) (take_more us i u lt ∙ ap (λ x. take i us ++ x ∷ []) (sym item)) ∙
        list_any-append (is_action_within s q) (take i us) (u ∷ []) ∙
        ap (λ b. list_any (is_action_within s q) (take i us) || b) (or_false (is_action_within s q u))

    pub within_more : (old new : List EntityUID) → AreWithin old (take i us) → ((q : EntityUID) → has uid_cmp new q ≡ (has uid_cmp old q || is_action_within s q u)) → AreWithin new (take (i + 1) us)
    within_more old new h added q = added q ∙ ap (λ b. b || is_action_within s q u) (h q) ∙ sym (next q)

    -- one that is there has brought in what is in it
    pub within_still : IsSchema s → (ids : List EntityUID) → AreWithin ids (take i us) → has uid_cmp ids u ≡ true → AreWithin ids (take (i + 1) us)
    within_still ok ids h there q = h q ∙ by (list_any (is_action_within s q) (take i us)) (is_action_within s q u) (some_within ok q u (take i us) (sym (h u) ∙ there)) ∙ sym (next q)
      where
        by : (a b : Bool) → (b ≡ true → a ≡ true) → a ≡ (a || b)
        by true b k = refl
        by false true k = k refl
        by false false k = refl

  -- the actions that a list with all of them declared is met by, and those that another list is met by
  pub listed_meet : (us : List EntityUID) (ids : List EntityUID) → list_all (λ u. is_some (action_at s u)) us ≡ true → AreWithin ids us →
      filter (λ (a : ActionData). has uid_cmp ids a.name) s.action_ids ≡ filter (action_meets s (In us)) s.action_ids
  listed_meet us ids declared h =
      filter_agree (λ (a : ActionData). has uid_cmp ids a.name) (action_meets s (In us)) (λ a. h a.name ∙ ap (λ b. b && list_any (is_action_within s a.name) us) (sym declared)) s.action_ids

  pub none_meets : (us : List EntityUID) → list_all (λ u. is_some (action_at s u)) us ≡ false → filter (action_meets s (In us)) s.action_ids ≡ []
  none_meets us other = none_stays (action_meets s (In us)) (λ a. ap (λ b. b && list_any (is_action_within s a.name) us) other) s.action_ids
