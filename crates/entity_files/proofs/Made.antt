-- The store that is computed is the one that is made of entities with their parents.
use Rattle.std.proofs.Common.{◌≡◌, ◌⊎◌, inl, inr, ◌↔◌, ℕ, zero, suc, take, Bool, true, false, not, List, [], ◌∷◌, map, Option, Some, None, cond, if◌then◌else◌, Contains, refl, sym, ap, ◌∙◌, subst, arith}
use Rattle.std.specs.Prelude.{◌&&◌, IsSome, IsSomeAnd, is_some, filter, slice_get}
use Rattle.std.specs.List.{list_all, AllByRecursion}
use Rattle.std.specs.List.Sorted.{IsStrictlySortedBy}
use Rattle.std.specs.Option.{option_map}
use Rattle.std.specs.Ordering.{is_eq}
use Rattle.std.proofs.lemmas.List.Elements.{All-from_recursion, Contains-append_cases, Contains-append_right}
use Rattle.std.proofs.lemmas.List.Kept.{IsStrictlySortedBy-filter}
use Rattle.plain_lemmas.proofs.Booleans.{and_parts_of}
use Rattle.policy_values.specs.Reaches.{Reaches}
use Rattle.policy_values.specs.Repeated.{IsRepeated}
use Rattle.policy_values.specs.declared.entity_uid.EntityUID.{EntityUID}
use Rattle.policy_values.specs.Uid.{uid_cmp}
use Rattle.entity_store.specs.Store.{StoredEntity, Store, is_named, entity_at}
use Rattle.entity_store.specs.FromParents.{ids_of, Lists, without_links, IsFromParents}
use Rattle.entity_store.proofs.OneStore.{one_store}
use Rattle.entity_files.specs.Made.{all_placed, listed_ids, is_reached, with_reached, are_different, have_no_cycle, made_of, ComputedIsMade}
use Rattle.entity_files.proofs.Placed.{same_id, itself, all_sorted, all_of_placed, value_placed}
use Rattle.entity_files.proofs.Reached.{has_is, is_computed, is_right, goes_on, reached_listed, passes, stays}

-- ---- ids that stand twice

-- an id at some place has an entity
placed_at : (es : List StoredEntity) (i : ℕ) (u : EntityUID) → slice_get (ids_of es) i ≡ Some u → IsSome (entity_at es u)
placed_at [] i u h = absurd (cc)
placed_at (e ∷ es) zero u h =
    let same : e.uid ≡ u = cc in
    subst (λ b. IsSome (cond b (Some e) (entity_at es u))) (sym (ap (λ v. is_eq (uid_cmp u v)) same ∙ ap is_eq (itself u))) refl
placed_at (e ∷ es) (suc i) u h = by (is_named u e) (placed_at es i u h)
  where
    by : (b : Bool) → IsSome (entity_at es u) → IsSome (cond b (Some e) (entity_at es u))
    by true k = refl
    by false k = k

-- and an entity that is found has a place
place_of : (es : List StoredEntity) (u : EntityUID) → IsSome (entity_at es u) → (i : ℕ) × (slice_get (ids_of es) i ≡ Some u)
place_of [] u h = absurd (cc)
place_of (e ∷ es) u h = by (is_named u e) refl h (λ k. place_of es u k)
  where
    by : (b : Bool) → is_named u e ≡ b → IsSome (cond b (Some e) (entity_at es u)) → (IsSome (entity_at es u) → (i : ℕ) × (slice_get (ids_of es) i ≡ Some u)) →
        (i : ℕ) × (slice_get (ids_of (e ∷ es)) i ≡ Some u)
    by true is k later = (zero, ap Some (sym (same_id u e.uid is)))
    by false is k later = let (i, at) = later k in (suc i, at)

repeated_later : (x : EntityUID) (xs : List EntityUID) (u : EntityUID) → IsRepeated xs u → IsRepeated (x ∷ xs) u
repeated_later x xs u (i, at, earlier) = (suc i, at, Contains-append_right (x ∷ []) (take i xs) u earlier)

only_one : (x u : EntityUID) → Contains (x ∷ []) u → x ≡ u
only_one x u (k, lt, is) = let first : k ≡ zero = omega (arith, lt) in cc

pub different_once : (es : List StoredEntity) → are_different es ≡ true → (u : EntityUID) → IsRepeated (ids_of es) u → ⊥
different_once [] h u (i, at, earlier) = absurd (cc)
different_once (e ∷ es) h u (zero, at, (k, lt, is)) = absurd (omega (arith, lt))
different_once (e ∷ es) h u (suc i, at, earlier) =
    by (Contains-append_cases (e.uid ∷ []) (take i (ids_of es)) u earlier) (λ there. different_once es parts.1 u (i, at, there))
  where
    parts : (not (is_some (entity_at es e.uid)) ≡ true) × (are_different es ≡ true)
    parts = and_parts_of (not (is_some (entity_at es e.uid))) (are_different es) h

    clash : (o : Option StoredEntity) → not (is_some o) ≡ true → IsSome o → ⊥
    clash None p q = cc
    clash (Some f) p q = cc

    by : Contains (e.uid ∷ []) u ⊎ Contains (take i (ids_of es)) u → (Contains (take i (ids_of es)) u → ⊥) → ⊥
    by (inl here) later =
        clash (entity_at es e.uid) parts.0 (subst (λ v. IsSome (entity_at es v)) (sym (only_one e.uid u here)) (placed_at es i u at))
    by (inr there) later = later there

pub once_different : (es : List StoredEntity) → ((u : EntityUID) → IsRepeated (ids_of es) u → ⊥) → are_different es ≡ true
once_different [] once = refl
once_different (e ∷ es) once = by (entity_at es e.uid) refl (once_different es (λ u r. once u (repeated_later e.uid (ids_of es) u r)))
  where
    by : (o : Option StoredEntity) → entity_at es e.uid ≡ o → are_different es ≡ true → (not (is_some o) && are_different es) ≡ true
    by None is later = later
    by (Some f) is later =
        let (i, at) = place_of es e.uid (ap is_some is) in
        absurd (once e.uid (suc i, at, Contains-append_right [] (e.uid ∷ take i (ids_of es)) e.uid (first i)))
      where
        first : (i : ℕ) → Contains (e.uid ∷ take i (ids_of es)) e.uid
        first i = (zero, omega arith, refl)

-- ---- the store that is computed

module _ (es : List StoredEntity) where
  abbrev whole : Store
  whole = all_placed (λ e. e.uid) (map (with_reached es) es) []

  reached_at : (fs : List StoredEntity) (u : EntityUID) → entity_at (map (with_reached es) fs) u ≡ option_map (with_reached es) (entity_at fs u)
  reached_at [] u = refl
  reached_at (f ∷ fs) u = by (is_named u f) (reached_at fs u)
    where
      by : (b : Bool) → entity_at (map (with_reached es) fs) u ≡ option_map (with_reached es) (entity_at fs u)
          → cond b (Some (with_reached es f)) (entity_at (map (with_reached es) fs) u) ≡ option_map (with_reached es) (cond b (Some f) (entity_at fs u))
      by true later = refl
      by false later = later

  whole_at : (u : EntityUID) → entity_at whole u ≡ option_map (with_reached es) (entity_at es u)
  whole_at u = value_placed (λ e. e.uid) (map (with_reached es) es) u ∙ reached_at es u

  kept : (u : EntityUID) → option_map without_links (entity_at whole u) ≡ option_map without_links (entity_at es u)
  kept u = ap (option_map without_links) (whole_at u) ∙ by (entity_at es u)
    where
      by : (o : Option StoredEntity) → option_map without_links (option_map (with_reached es) o) ≡ option_map without_links o
      by None = refl
      by (Some e) = refl

  named_at : (fs : List StoredEntity) (u : EntityUID) (e : StoredEntity) → entity_at fs u ≡ Some e → e.uid ≡ u
  named_at [] u e h = absurd (cc)
  named_at (f ∷ fs) u e h = by (is_named u f) refl h (λ k. named_at fs u e k)
    where
      by : (b : Bool) → is_named u f ≡ b → cond b (Some f) (entity_at fs u) ≡ Some e → (entity_at fs u ≡ Some e → e.uid ≡ u) → e.uid ≡ u
      by true is k later = let same : f ≡ e = cc in sym (same_id u e.uid (subst (λ g. is_named u g ≡ true) same is))
      by false is k later = later k

  links_of : (x y : EntityUID) (o : Option StoredEntity) → entity_at es x ≡ o → IsSomeAnd (option_map (with_reached es) o) (λ e. Contains e.ancestors y) ↔ Reaches (Lists es) x y
  links_of x y None is = (λ h. absurd h, λ r. let there : IsSome {T = StoredEntity} None = subst IsSome is (goes_on es x y r) in absurd (cc))
  links_of x y (Some e) is =
      let named : e.uid ≡ x = named_at es x e is in
      let ids = filter (is_reached es es e.uid) (listed_ids es) in (
        λ c. is_right es es x y (subst (λ v. is_reached es es v y ≡ true) named (passes (is_reached es es e.uid) (listed_ids es) y ((has_is ids y).1 c))),
        λ r. (has_is ids y).0 (stays (is_reached es es e.uid) (listed_ids es) y (subst (λ v. is_reached es es v y ≡ true) (sym named) (is_computed es x y r)) (reached_listed es x y r)),
      )

  ancestors_of : (x y : EntityUID) → Lists whole x y ↔ Reaches (Lists es) x y
  ancestors_of x y = subst (λ o. IsSomeAnd o (λ e. Contains e.ancestors y) ↔ Reaches (Lists es) x y) (sym (whole_at x)) (links_of x y (entity_at es x) refl)

  -- ids ascend
  each_itself : (us : List EntityUID) → map (λ u. u) us ≡ us
  each_itself [] = refl
  each_itself (u ∷ us) = ap (λ l. u ∷ l) (each_itself us)

  ids_sorted : (fs : List StoredEntity) → IsStrictlySortedBy uid_cmp (map (λ u. u) (listed_ids fs))
  unfolding IsStrictlySortedBy
  ids_sorted [] = tt
  ids_sorted (f ∷ fs) = all_sorted (λ u. u) f.ancestors (listed_ids fs) (ids_sorted fs)

  each_sorted : (fs : List StoredEntity) → AllByRecursion (λ e. IsStrictlySortedBy uid_cmp e.ancestors) (map (with_reached es) fs)
  each_sorted [] = tt
  each_sorted (f ∷ fs) = (IsStrictlySortedBy-filter uid_cmp (is_reached es es f.uid) (listed_ids es) (subst (IsStrictlySortedBy uid_cmp) (each_itself (listed_ids es)) (ids_sorted es)), each_sorted fs)

  empty_sorted : IsStrictlySortedBy uid_cmp []
  unfolding IsStrictlySortedBy
  empty_sorted = tt

  whole_made : ((u : EntityUID) → IsRepeated (ids_of es) u → ⊥) → ((u : EntityUID) → Reaches (Lists es) u u → ⊥) → IsFromParents es whole
  whole_made once no_cycle = record {
    once = once;
    no_cycle = no_cycle;
    ordered = all_sorted (λ e. e.uid) (map (with_reached es) es) [] empty_sorted;
    kept = kept;
    ancestors = ancestors_of;
    ascending = All-from_recursion (λ e. IsStrictlySortedBy uid_cmp e.ancestors) whole (all_of_placed (λ e. e.uid) (λ e. IsStrictlySortedBy uid_cmp e.ancestors) (map (with_reached es) es) [] (each_sorted es) tt);
  }

  -- ---- cycles

  abbrev IsFree : StoredEntity → Bool
  IsFree e = not (is_reached es es e.uid e.uid)

  free_at : (fs : List StoredEntity) → list_all IsFree fs ≡ true → (u : EntityUID) → IsSome (entity_at fs u) → not (is_reached es es u u) ≡ true
  free_at [] h u own = absurd (cc)
  free_at (f ∷ fs) h u own = by (is_named u f) refl own (λ k. free_at fs p.1 u k)
    where
      p : (IsFree f ≡ true) × (list_all IsFree fs ≡ true)
      p = and_parts_of (IsFree f) (list_all IsFree fs) h

      by : (b : Bool) → is_named u f ≡ b → IsSome (cond b (Some f) (entity_at fs u)) → (IsSome (entity_at fs u) → not (is_reached es es u u) ≡ true) → not (is_reached es es u u) ≡ true
      by true is k later = subst (λ v. not (is_reached es es v v) ≡ true) (sym (same_id u f.uid is)) p.0
      by false is k later = later k

  not_both : (b : Bool) → not b ≡ true → b ≡ true → ⊥
  not_both true h k = cc
  not_both false h k = cc

  free_none : have_no_cycle es ≡ true → (u : EntityUID) → Reaches (Lists es) u u → ⊥
  free_none h u r = not_both (is_reached es es u u) (free_at es h u (goes_on es u u r)) (is_computed es u u r)

  none_free : ((u : EntityUID) → Reaches (Lists es) u u → ⊥) → (fs : List StoredEntity) → list_all IsFree fs ≡ true
  none_free none [] = refl
  none_free none (f ∷ fs) = by (is_reached es es f.uid f.uid) refl (none_free none fs)
    where
      by : (b : Bool) → is_reached es es f.uid f.uid ≡ b → list_all IsFree fs ≡ true → (not b && list_all IsFree fs) ≡ true
      by true is later = absurd (none f.uid (is_right es es f.uid f.uid is))
      by false is later = later

  -- ---- both ways

  computed_made : (w : Store) (a b : Bool) → are_different es ≡ a → have_no_cycle es ≡ b → (if a && b then Some whole else None) ≡ Some w → IsFromParents es w
  computed_made w true true once free is =
      let same : whole ≡ w = cc in
      subst (IsFromParents es) same (whole_made (different_once es once) (free_none free))
  computed_made w true false once free is = absurd (cc)
  computed_made w false b once free is = absurd (cc)

  made_computed : (w : Store) → IsFromParents es w → made_of es ≡ Some w
  made_computed w made =
      rw (once_different es made.once, none_free made.no_cycle es) (ap Some (one_store es whole w (whole_made made.once made.no_cycle) made))

pub computed_is_made : ComputedIsMade
computed_is_made es w = (computed_made es w (are_different es) (have_no_cycle es) refl refl, made_computed es w)
