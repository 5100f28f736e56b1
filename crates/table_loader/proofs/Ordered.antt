-- The tests of order are true exactly of what is in order.
use Rattle.std.proofs.Common.{◌≡◌, ℕ, Bool, true, false, ◌&&◌, cond, List, [], ◌∷◌, map, Option, Some, None, refl, ap, ◌∙◌, subst}
use Rattle.std.specs.List.{list_all, find, AllByRecursion}
use Rattle.std.specs.List.Sorted.{IsStrictlySortedBy}
use Rattle.std.specs.Option.{option_and_then}
use Rattle.std.specs.Ordering.{is_lt}
use Rattle.std.specs.declared.cmp.Ordering.{Ordering}
use Rattle.std.specs.declared.cmp.Ordering.TheVariants.{Less, Equal, Greater}
use Rattle.plain_lemmas.proofs.Booleans.{and_parts_of}
use Rattle.policy_values.specs.declared.entity_uid.EntityUID.{EntityUID}
use Rattle.policy_values.specs.Uid.{text_cmp, uid_cmp}
use Rattle.policy_values.specs.Value.{Val, truth, long, string, entity, set, rec, decimal, ip, datetime, duration, Fields, no_fields, field}
use Rattle.entity_store.specs.Store.{StoredEntity, Store, is_named}
use Rattle.table_loader.specs.Order.{IsBelowAll, IsOrdered, AreOrdered, IsEntityOrdered}
use Rattle.table_loader.specs.RowsState.{RowsState}
use Rattle.table_loader.specs.Tables.{Tables, store_of, tables_of}
use Rattle.table_loader.specs.Laws.{IsStoreOrdered, KnownStoresAreOrdered}
use Rattle.table_loader.specs.State.{is_below_all, is_ordered, are_ordered, do_ids_ascend, is_entity_ordered, is_store_ordered, store_in_order, store_known}

less_of : (o : Ordering) → is_lt o ≡ true → o ≡ Less
less_of Less h = refl
less_of Equal h = cc
less_of Greater h = cc

both : {a b : Bool} → a ≡ true → b ≡ true → (a && b) ≡ true
both h k = λ i. h i && k i

-- ---- what the tests say

below : (k : List ℕ) (fs : Fields) → is_below_all k fs ≡ true → IsBelowAll k fs
below k no_fields h = tt
below k (field l v fs) h =
    let p = and_parts_of (is_lt (text_cmp k l)) (is_below_all k fs) h in
    (less_of (text_cmp k l) p.0, below k fs p.1)

mutual
  ordered : (v : Val) → is_ordered v ≡ true → IsOrdered v
  ordered (rec fs) h = all_ordered fs h
  ordered (truth b) h = tt
  ordered (long n) h = tt
  ordered (string s) h = tt
  ordered (entity u) h = tt
  ordered (set vs) h = tt
  ordered (decimal n) h = tt
  ordered (ip r) h = tt
  ordered (datetime n) h = tt
  ordered (duration n) h = tt

  all_ordered : (fs : Fields) → are_ordered fs ≡ true → AreOrdered fs
  all_ordered no_fields h = tt
  all_ordered (field k v fs) h =
      let p = and_parts_of (is_below_all k fs) (is_ordered v && are_ordered fs) h in
      let q = and_parts_of (is_ordered v) (are_ordered fs) p.1 in
      (below k fs p.0, ordered v q.0, all_ordered fs q.1)

all_of : {X : Type 0} (f : X → Bool) (P : X → Type 0) → ((x : X) → f x ≡ true → P x) → (xs : List X) → list_all f xs ≡ true → AllByRecursion P xs
all_of f P each [] h = tt
all_of f P each (x ∷ xs) h =
    let p = and_parts_of (f x) (list_all f xs) h in
    (each x p.0, all_of f P each xs p.1)

ids : (us : List EntityUID) → do_ids_ascend us ≡ true → IsStrictlySortedBy uid_cmp us
unfolding IsStrictlySortedBy
ids [] h = tt
ids (u ∷ us) h =
    let p = and_parts_of (list_all (λ y. is_lt (uid_cmp u y)) us) (do_ids_ascend us) h in
    (all_of (λ y. is_lt (uid_cmp u y)) (λ y. uid_cmp u y ≡ Less) (λ y. less_of (uid_cmp u y)) us p.0, ids us p.1)

entity_ordered : (e : StoredEntity) → is_entity_ordered e ≡ true → IsEntityOrdered e
entity_ordered e h =
    let p = and_parts_of (are_ordered e.attrs) (are_ordered e.tags && do_ids_ascend e.ancestors) h in
    let q = and_parts_of (are_ordered e.tags) (do_ids_ascend e.ancestors) p.1 in
    record { attrs = all_ordered e.attrs p.0; tags = all_ordered e.tags q.0; ancestors = ids e.ancestors q.1 }

found_passes : {X : Type 0} (f g : X → Bool) (xs : List X) (x : X) → list_all f xs ≡ true → find g xs ≡ Some x → f x ≡ true
found_passes f g [] x h is = cc
found_passes f g (y ∷ ys) x h is =
    let p = and_parts_of (f y) (list_all f ys) h in by (g y) p.0 is (found_passes f g ys x p.1)
  where
    by : (b : Bool) → f y ≡ true → cond b (Some y) (find g ys) ≡ Some x → (find g ys ≡ Some x → f x ≡ true) → f x ≡ true
    by true h is rest = let same : y ≡ x = cc in subst (λ z. f z ≡ true) same h
    by false h is rest = rest is

pub store_ordered : (s : Store) → is_store_ordered s ≡ true → IsStoreOrdered s
store_ordered s h =
    let p = and_parts_of (do_ids_ascend (map (λ e. e.uid) s)) (list_all is_entity_ordered s) h in
    record {
      ids = ids (map (λ e. e.uid) s) p.0;
      order = λ u e at. entity_ordered e (found_passes is_entity_ordered (is_named u) s e p.1 at);
    }

-- ---- and back

less_is : (o : Ordering) → o ≡ Less → is_lt o ≡ true
less_is o h = ap is_lt h

below_is : (k : List ℕ) (fs : Fields) → IsBelowAll k fs → is_below_all k fs ≡ true
below_is k no_fields h = refl
below_is k (field l v fs) h = both (less_is (text_cmp k l) h.0) (below_is k fs h.1)

mutual
  ordered_is : (v : Val) → IsOrdered v → is_ordered v ≡ true
  ordered_is (rec fs) h = all_ordered_is fs h
  ordered_is (truth b) h = refl
  ordered_is (long n) h = refl
  ordered_is (string s) h = refl
  ordered_is (entity u) h = refl
  ordered_is (set vs) h = refl
  ordered_is (decimal n) h = refl
  ordered_is (ip r) h = refl
  ordered_is (datetime n) h = refl
  ordered_is (duration n) h = refl

  all_ordered_is : (fs : Fields) → AreOrdered fs → are_ordered fs ≡ true
  all_ordered_is no_fields h = refl
  all_ordered_is (field k v fs) h = both (below_is k fs h.0) (both (ordered_is v h.1) (all_ordered_is fs h.2))

all_is : {X : Type 0} (f : X → Bool) (P : X → Type 0) → ((x : X) → P x → f x ≡ true) → (xs : List X) → AllByRecursion P xs → list_all f xs ≡ true
all_is f P each [] h = refl
all_is f P each (x ∷ xs) h = both (each x h.0) (all_is f P each xs h.1)

ids_are : (us : List EntityUID) → IsStrictlySortedBy uid_cmp us → do_ids_ascend us ≡ true
unfolding IsStrictlySortedBy
ids_are [] h = refl
ids_are (u ∷ us) h = both (all_is (λ y. is_lt (uid_cmp u y)) (λ y. uid_cmp u y ≡ Less) (λ y. less_is (uid_cmp u y)) us h.0) (ids_are us h.1)

entity_is : (e : StoredEntity) → IsEntityOrdered e → is_entity_ordered e ≡ true
entity_is e h = both (all_ordered_is e.attrs h.attrs) (both (all_ordered_is e.tags h.tags) (ids_are e.ancestors h.ancestors))

store_is : (s : Store) → IsStrictlySortedBy uid_cmp (map (λ e. e.uid) s) → AllByRecursion IsEntityOrdered s → is_store_ordered s ≡ true
store_is s h k = both (ids_are (map (λ e. e.uid) s) h) (all_is is_entity_ordered IsEntityOrdered entity_is s k)

-- the rows of a store in order say it
pub rows_say : (s : Store) → store_of (tables_of s) ≡ s → IsStrictlySortedBy uid_cmp (map (λ e. e.uid) s) → AllByRecursion IsEntityOrdered s → store_in_order (tables_of s) ≡ Some s
rows_say s is h k = ap (λ w. cond (is_store_ordered w) (Some w) None) is ∙ ap (λ b. cond b (Some s) None) (store_is s h k)

-- ---- what is known

-- steady rows say tables, whose store is this one, in order
pub record IsReported (r : RowsState) (s : Store) : Type 0 where
  pub steady : r.steady ≡ true
  pub tables : Tables
  pub known : r.known ≡ Some tables
  pub is : store_of tables ≡ s
  pub ordered : IsStoreOrdered s

pub known : (r : RowsState) (s : Store) → store_known r ≡ Some s → IsReported r s
known r s h = by r.steady refl r.known refl h
  where
    in_order : (b : Bool) (t : Tables) → r.steady ≡ true → r.known ≡ Some t → is_store_ordered (store_of t) ≡ b → cond b (Some (store_of t)) None ≡ Some s → IsReported r s
    in_order true t steady is ordered k =
        let same : store_of t ≡ s = cc in
        record { steady = steady; tables = t; known = is; is = same; ordered = store_ordered s (subst (λ w. is_store_ordered w ≡ true) same ordered) }
    in_order false t steady is ordered k = absurd (cc)

    by : (b : Bool) → r.steady ≡ b → (o : Option Tables) → r.known ≡ o → cond b (option_and_then store_in_order o) None ≡ Some s → IsReported r s
    by true steady (Some t) is k = in_order (is_store_ordered (store_of t)) t steady is refl k
    by true steady None is k = absurd (cc)
    by false steady o is k = absurd (cc)

pub known_ordered : KnownStoresAreOrdered
known_ordered r s h = (known r s h).ordered
