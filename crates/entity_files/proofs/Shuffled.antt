-- Entities in another order make the same store.
use Rattle.std.proofs.Common.{◌≡◌, inl, inr, ◌↔◌, ℕ, zero, ◌+◌, ◌≤◌, Bool, true, false, not, List, [], ◌∷◌, Option, Some, None, cond, Contains, refl, sym, ap, ◌∙◌, subst, arith}
use Rattle.std.proofs.Math.Path.{fun_ext}
use Rattle.std.specs.Prelude.{◌&&◌, IsSomeAnd, is_some, IsPermutation, sum_by}
use Rattle.std.specs.Option.{option_map}
use Rattle.std.proofs.lemmas.List.Elements.{Contains-append_cases, Contains-append_right}
use Rattle.std.proofs.lemmas.List.Sorted.{Contains-permutation, IsPermutation-sym, sum_by-IsPermutation}
use Rattle.std.proofs.lemmas.List.Sums.{sum_by-cons}
use Rattle.plain_lemmas.proofs.Booleans.{and_parts_of}
use Rattle.policy_values.specs.Reaches.{Reaches}
use Rattle.policy_values.specs.declared.entity_uid.EntityUID.{EntityUID}
use Rattle.entity_store.specs.Store.{StoredEntity, Store, is_named, entity_at}
use Rattle.entity_store.specs.FromParents.{Lists, without_links, IsFromParents}
use Rattle.entity_files.specs.Made.{are_different}
use Rattle.entity_files.proofs.Placed.{same_id}
use Rattle.entity_files.proofs.Stores.{named}
use Rattle.entity_files.proofs.Made.{different_once, once_different}

-- ---- how many entities have an id

abbrev one_of : EntityUID → StoredEntity → ℕ
one_of u e = cond (is_named u e) 1 0

abbrev count : EntityUID → List StoredEntity → ℕ
count u es = sum_by (one_of u) es

zero_plus : (n : ℕ) → 0 + n ≡ n
zero_plus n = omega arith

none_counted : (es : List StoredEntity) (u : EntityUID) → entity_at es u ≡ None → count u es ≡ 0
none_counted [] u h = refl
none_counted (e ∷ es) u h = sum_by-cons (one_of u) e es ∙ by (is_named u e) h (none_counted es u)
  where
    by : (b : Bool) → cond b (Some e) (entity_at es u) ≡ None → (entity_at es u ≡ None → count u es ≡ 0) → cond b 1 0 + count u es ≡ 0
    by true k later = absurd (cc)
    by false k later = zero_plus (count u es) ∙ later k

counted_none : (es : List StoredEntity) (u : EntityUID) → count u es ≡ 0 → entity_at es u ≡ None
counted_none [] u h = refl
counted_none (e ∷ es) u h = by (is_named u e) (sym (sum_by-cons (one_of u) e es) ∙ h) (counted_none es u)
  where
    by : (b : Bool) → cond b 1 0 + count u es ≡ 0 → (count u es ≡ 0 → entity_at es u ≡ None) → cond b (Some e) (entity_at es u) ≡ None
    by true k later = absurd (omega (arith, k))
    by false k later = later (sym (zero_plus (count u es)) ∙ k)

none_of : (o : Option StoredEntity) → not (is_some o) ≡ true → o ≡ None
none_of None h = refl
none_of (Some f) h = absurd (cc)

parts : (e : StoredEntity) (es : List StoredEntity) → are_different (e ∷ es) ≡ true → (entity_at es e.uid ≡ None) × (are_different es ≡ true)
parts e es h = let both = and_parts_of (not (is_some (entity_at es e.uid))) (are_different es) h in (none_of (entity_at es e.uid) both.0, both.1)

few : (es : List StoredEntity) → are_different es ≡ true → (u : EntityUID) → count u es ≤ 1
few [] h u = omega arith
few (e ∷ es) h u = subst (λ n. n ≤ 1) (sym (sum_by-cons (one_of u) e es)) (by (is_named u e) refl (few es (parts e es h).1 u))
  where
    by : (b : Bool) → is_named u e ≡ b → count u es ≤ 1 → cond b 1 0 + count u es ≤ 1
    by true is later = let none = none_counted es u (ap (entity_at es) (same_id u e.uid is) ∙ (parts e es h).0) in omega (arith, none)
    by false is later = omega (arith, later)

differ : (es : List StoredEntity) → ((u : EntityUID) → count u es ≤ 1) → are_different es ≡ true
differ [] h = refl
differ (e ∷ es) h = by (entity_at es e.uid) refl (differ es (λ u. less u (cond (is_named u e) 1 0) (subst (λ n. n ≤ 1) (sum_by-cons (one_of u) e es) (h u))))
  where
    less : (u : EntityUID) (n : ℕ) → n + count u es ≤ 1 → count u es ≤ 1
    less u n k = omega (arith, k)

    zero_of : (n : ℕ) → 1 + n ≤ 1 → n ≡ 0
    zero_of n k = omega (arith, k)

    own : 1 + count e.uid es ≤ 1
    own = subst (λ b. cond b 1 0 + count e.uid es ≤ 1) (named e.uid e refl) (subst (λ n. n ≤ 1) (sum_by-cons (one_of e.uid) e es) (h e.uid))

    by : (o : Option StoredEntity) → entity_at es e.uid ≡ o → are_different es ≡ true → (not (is_some o) && are_different es) ≡ true
    by None is later = later
    by (Some f) is later = let none : Some f ≡ None = sym is ∙ counted_none es e.uid (zero_of (count e.uid es) own) in absurd (cc)

-- entities that differ do so in another order
pub still_differ : (xs ys : List StoredEntity) → IsPermutation xs ys → are_different xs ≡ true → are_different ys ≡ true
still_differ xs ys p h = differ ys (λ u. subst (λ n. n ≤ 1) (sym (sum_by-IsPermutation (one_of u) xs ys p)) (few xs h u))

-- ---- what is found by an id

found_in : (es : List StoredEntity) (u : EntityUID) (e : StoredEntity) → entity_at es u ≡ Some e → Contains es e × (e.uid ≡ u)
found_in [] u e h = absurd (cc)
found_in (x ∷ xs) u e h = by (is_named u x) refl h (found_in xs u e)
  where
    by : (b : Bool) → is_named u x ≡ b → cond b (Some x) (entity_at xs u) ≡ Some e → (entity_at xs u ≡ Some e → Contains xs e × (e.uid ≡ u)) → Contains (x ∷ xs) e × (e.uid ≡ u)
    by true is k later = let same : x ≡ e = cc in ((zero, omega arith, same), sym (same_id u e.uid (subst (λ y. is_named u y ≡ true) same is)))
    by false is k later = let (there, id) = later k in (Contains-append_right (x ∷ []) xs e there, id)

only : (x e : StoredEntity) → Contains (x ∷ []) e → x ≡ e
only x e (k, lt, is) = let first : k ≡ zero = omega (arith, lt) in cc

alone : (es : List StoredEntity) → are_different es ≡ true → (e : StoredEntity) → Contains es e → entity_at es e.uid ≡ Some e
alone [] h e (k, lt, is) = absurd (omega (arith, lt))
alone (x ∷ xs) h e c = elim (Contains-append_cases (x ∷ []) xs e c) [
  | inl here ↦ head (only x e here)
  | inr there ↦ tail (alone xs (parts x xs h).1 e there) (is_named e.uid x) refl
]
  where
    head : x ≡ e → entity_at (x ∷ xs) e.uid ≡ Some e
    head same = ap (λ b. cond b (Some x) (entity_at xs e.uid)) (named e.uid x (ap (λ (y : StoredEntity). y.uid) same)) ∙ ap Some same

    tail : entity_at xs e.uid ≡ Some e → (b : Bool) → is_named e.uid x ≡ b → cond b (Some x) (entity_at xs e.uid) ≡ Some e
    tail k true is = let none : Some e ≡ None = sym k ∙ ap (entity_at xs) (same_id e.uid x.uid is) ∙ (parts x xs h).0 in absurd (cc)
    tail k false is = k

pub same_at : (xs ys : List StoredEntity) → IsPermutation xs ys → are_different xs ≡ true → (u : EntityUID) → entity_at xs u ≡ entity_at ys u
same_at xs ys p h u = by (entity_at xs u) refl
  where
    none : (o : Option StoredEntity) → entity_at xs u ≡ None → entity_at ys u ≡ o → None ≡ o
    none None is there = refl
    none (Some f) is there =
        let (in_ys, id) = found_in ys u f there in
        let some = alone xs h f (Contains-permutation ys xs f (IsPermutation-sym xs ys p) in_ys) in
        let clash : Some f ≡ None = sym some ∙ ap (entity_at xs) id ∙ is in absurd (cc)

    by : (o : Option StoredEntity) → entity_at xs u ≡ o → o ≡ entity_at ys u
    by None is = none (entity_at ys u) is refl
    by (Some e) is =
        let (in_xs, id) = found_in xs u e is in
        sym (ap (entity_at ys) (sym id) ∙ alone ys (still_differ xs ys p h) e (Contains-permutation xs ys e p in_xs))

-- ---- the store

pub shuffled_store : (xs ys : List StoredEntity) (w : Store) → IsPermutation xs ys → IsFromParents xs w → IsFromParents ys w
shuffled_store xs ys w p h = record {
  once = different_once ys (still_differ xs ys p different);
  no_cycle = subst (λ (at : EntityUID → Option StoredEntity). (u : EntityUID) → ¬ Reaches (λ x y. IsSomeAnd (at x) (λ e. Contains e.ancestors y)) u u) same h.no_cycle;
  ordered = h.ordered;
  kept = λ u. h.kept u ∙ ap (option_map without_links) (same_at xs ys p different u);
  ancestors = subst (λ (at : EntityUID → Option StoredEntity). (x y : EntityUID) → Lists w x y ↔ Reaches (λ x y. IsSomeAnd (at x) (λ e. Contains e.ancestors y)) x y) same h.ancestors;
  ascending = h.ascending;
}
  where
    different : are_different xs ≡ true
    different = once_different xs h.once

    same : ◌≡◌ {A = EntityUID → Option StoredEntity} (entity_at xs) (entity_at ys)
    same = fun_ext (same_at xs ys p different)
