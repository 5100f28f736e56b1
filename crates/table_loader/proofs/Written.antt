-- The tables that a store is written into stand for it, and are in order where its entities are. By recursion on the
-- store: ids differ, so the rows of an entity are its own fields and ancestors, and those of others add none to it.
use Rattle.std.proofs.Common.{◌≡◌, Bool, true, false, List, [], ◌∷◌, ◌++◌, map, refl, sym, ap, ◌∙◌, subst}
use Rattle.std.specs.Prelude.{flat_map}
use Rattle.std.specs.List.{AllByRecursion}
use Rattle.std.specs.List.Sorted.{IsStrictlySortedBy}
use Rattle.std.specs.Ordering.{is_eq, ordering_reverse}
use Rattle.std.specs.declared.cmp.Ordering.TheVariants.{Less}
use Rattle.std.proofs.lemmas.Map.Keys.{sorted_head, sorted_tail}
use Rattle.plain_lemmas.proofs.Lists.{all_weaker}
use Rattle.policy_values.specs.declared.entity_uid.EntityUID.{EntityUID}
use Rattle.policy_values.specs.Uid.{uid_cmp, uid_cmp_total, uid_eq}
use Rattle.policy_values.specs.Value.{Fields, no_fields, field}
use Rattle.entity_store.specs.Store.{StoredEntity, Store}
use Rattle.table_loader.specs.Order.{AreOrdered, IsEntityOrdered}
use Rattle.table_loader.proofs.Uids.{same_uid, uid_eq-self}
use Rattle.table_loader.specs.Tables.{FieldRow, AncestorRow, fields_in, ancestors_in, entity_of, field_rows, ancestor_rows, tables_of}
use Rattle.table_loader.specs.TableLaws.{TablesOfStoresStandForThem}

-- ids ascend in the store
abbrev IdsAscend : Store → Type 0
IdsAscend s = IsStrictlySortedBy uid_cmp (map (λ e. e.uid) s)

-- the rows of one part of each entity
abbrev rows_for : (StoredEntity → Fields) → Store → List FieldRow
rows_for part s = flat_map (λ e. field_rows e.uid (part e)) s

abbrev rows_for_ancestors : Store → List AncestorRow
rows_for_ancestors s = flat_map (λ e. ancestor_rows e.uid e.ancestors) s

-- ---- what an id has in rows of its own and of others

module _ (u : EntityUID) where
  fields_in-own : (fs : Fields) (rest : List FieldRow) → fields_in u rest ≡ no_fields → fields_in u (field_rows u fs ++ rest) ≡ fs
  fields_in-own no_fields rest none = none
  fields_in-own (field k v fs) rest none = rw (uid_eq-self u) (ap (λ l. field k v l) (fields_in-own fs rest none))

  fields_in-other : (x : EntityUID) → uid_eq u x ≡ false → (fs : Fields) (rest : List FieldRow) → fields_in u (field_rows x fs ++ rest) ≡ fields_in u rest
  fields_in-other x other no_fields rest = refl
  fields_in-other x other (field k v fs) rest = rw other (fields_in-other x other fs rest)

  ancestors_in-own : (ys : List EntityUID) (rest : List AncestorRow) → ancestors_in u rest ≡ [] → ancestors_in u (ancestor_rows u ys ++ rest) ≡ ys
  ancestors_in-own [] rest none = none
  ancestors_in-own (y ∷ ys) rest none = rw (uid_eq-self u) (ap (λ l. y ∷ l) (ancestors_in-own ys rest none))

  ancestors_in-other : (x : EntityUID) → uid_eq u x ≡ false → (ys : List EntityUID) (rest : List AncestorRow) → ancestors_in u (ancestor_rows x ys ++ rest) ≡ ancestors_in u rest
  ancestors_in-other x other [] rest = refl
  ancestors_in-other x other (y ∷ ys) rest = rw other (ancestors_in-other x other ys rest)

  abbrev IsOther : StoredEntity → Type 0
  IsOther e = uid_eq u e.uid ≡ false

  fields_in-others : (part : StoredEntity → Fields) (s : Store) → AllByRecursion IsOther s → fields_in u (rows_for part s) ≡ no_fields
  fields_in-others part [] h = refl
  fields_in-others part (e ∷ s) h = fields_in-other e.uid h.0 (part e) (rows_for part s) ∙ fields_in-others part s h.1

  ancestors_in-others : (s : Store) → AllByRecursion IsOther s → ancestors_in u (rows_for_ancestors s) ≡ []
  ancestors_in-others [] h = refl
  ancestors_in-others (e ∷ s) h = ancestors_in-other e.uid h.0 e.ancestors (rows_for_ancestors s) ∙ ancestors_in-others s h.1

-- ---- ascending ids differ

others_behind : (u : EntityUID) (s : Store) → AllByRecursion (λ v. uid_cmp u v ≡ Less) (map (λ e. e.uid) s) → AllByRecursion (IsOther u) s
others_behind u [] h = tt
others_behind u (e ∷ s) h = (ap is_eq h.0, others_behind u s h.1)

other_for_each_behind : (u : EntityUID) (s : Store) → AllByRecursion (λ v. uid_cmp u v ≡ Less) (map (λ e. e.uid) s) → AllByRecursion (λ e. uid_eq e.uid u ≡ false) s
other_for_each_behind u [] h = tt
other_for_each_behind u (e ∷ s) h =
    (ap is_eq (uid_cmp_total.antisymm e.uid u ∙ ap ordering_reverse h.0), other_for_each_behind u s h.1)

-- ---- the store of the tables, entity by entity

abbrev IsItsRows : Store → StoredEntity → Type 0
IsItsRows s e = entity_of (tables_of s) e.uid ≡ e

first_is_its_rows : (e : StoredEntity) (s : Store) → AllByRecursion (IsOther e.uid) s → IsItsRows (e ∷ s) e
first_is_its_rows e s others = λ i. record {
  uid = e.uid;
  attrs = fields_in-own e.uid e.attrs (rows_for (λ x. x.attrs) s) (fields_in-others e.uid (λ x. x.attrs) s others) i;
  ancestors = ancestors_in-own e.uid e.ancestors (rows_for_ancestors s) (ancestors_in-others e.uid s others) i;
  tags = fields_in-own e.uid e.tags (rows_for (λ x. x.tags) s) (fields_in-others e.uid (λ x. x.tags) s others) i;
}

still_their_rows : (e : StoredEntity) (s ts : Store) → AllByRecursion (λ x. uid_eq x.uid e.uid ≡ false) ts → AllByRecursion (IsItsRows s) ts → AllByRecursion (IsItsRows (e ∷ s)) ts
still_their_rows e s [] h k = tt
still_their_rows e s (x ∷ ts) h k = (same ∙ k.0, still_their_rows e s ts h.1 k.1)
  where
    same : entity_of (tables_of (e ∷ s)) x.uid ≡ entity_of (tables_of s) x.uid
    same = λ i. record {
      uid = x.uid;
      attrs = fields_in-other x.uid e.uid h.0 e.attrs (rows_for (λ y. y.attrs) s) i;
      ancestors = ancestors_in-other x.uid e.uid h.0 e.ancestors (rows_for_ancestors s) i;
      tags = fields_in-other x.uid e.uid h.0 e.tags (rows_for (λ y. y.tags) s) i;
    }

all_are_their_rows : (s : Store) → IdsAscend s → AllByRecursion (IsItsRows s) s
all_are_their_rows [] ids = tt
all_are_their_rows (e ∷ s) ids =
    let behind = sorted_head uid_cmp e.uid (map (λ x. x.uid) s) ids in
    let rest = all_are_their_rows s (sorted_tail uid_cmp e.uid (map (λ x. x.uid) s) ids) in
    (first_is_its_rows e s (others_behind e.uid s behind), still_their_rows e s s (other_for_each_behind e.uid s behind) rest)

same_store : (whole s : Store) → AllByRecursion (IsItsRows whole) s → map (entity_of (tables_of whole)) (map (λ e. e.uid) s) ≡ s
same_store whole [] h = refl
same_store whole (e ∷ s) h = λ i. h.0 i ∷ same_store whole s h.1 i

-- ---- the tables are in order: an id has in them what the entity of that id has, or nothing

module _ (P : Fields → Type 0) (nothing : P no_fields) (part : StoredEntity → Fields) where
  each_fields_in : (s : Store) → IdsAscend s → AllByRecursion (λ e. P (part e)) s → (u : EntityUID) → P (fields_in u (rows_for part s))
  each_fields_in [] ids each u = nothing
  each_fields_in (e ∷ s) ids each u = by (uid_eq u e.uid) refl (each_fields_in s (sorted_tail uid_cmp e.uid (map (λ x. x.uid) s) ids) each.1 u)
    where
      others : AllByRecursion (IsOther e.uid) s
      others = others_behind e.uid s (sorted_head uid_cmp e.uid (map (λ x. x.uid) s) ids)

      own : P (fields_in e.uid (field_rows e.uid (part e) ++ rows_for part s))
      own = subst P (sym (fields_in-own e.uid (part e) (rows_for part s) (fields_in-others e.uid part s others))) each.0

      by : (b : Bool) → uid_eq u e.uid ≡ b → P (fields_in u (rows_for part s)) → P (fields_in u (field_rows e.uid (part e) ++ rows_for part s))
      by true h rest = subst (λ v. P (fields_in v (field_rows e.uid (part e) ++ rows_for part s))) (sym (same_uid u e.uid h)) own
      by false h rest = subst P (sym (fields_in-other u e.uid h (part e) (rows_for part s))) rest

module _ (P : List EntityUID → Type 0) (nothing : P []) where
  each_ancestors_in : (s : Store) → IdsAscend s → AllByRecursion (λ e. P e.ancestors) s → (u : EntityUID) → P (ancestors_in u (rows_for_ancestors s))
  each_ancestors_in [] ids each u = nothing
  each_ancestors_in (e ∷ s) ids each u = by (uid_eq u e.uid) refl (each_ancestors_in s (sorted_tail uid_cmp e.uid (map (λ x. x.uid) s) ids) each.1 u)
    where
      others : AllByRecursion (IsOther e.uid) s
      others = others_behind e.uid s (sorted_head uid_cmp e.uid (map (λ x. x.uid) s) ids)

      own : P (ancestors_in e.uid (ancestor_rows e.uid e.ancestors ++ rows_for_ancestors s))
      own = subst P (sym (ancestors_in-own e.uid e.ancestors (rows_for_ancestors s) (ancestors_in-others e.uid s others))) each.0

      by : (b : Bool) → uid_eq u e.uid ≡ b → P (ancestors_in u (rows_for_ancestors s)) → P (ancestors_in u (ancestor_rows e.uid e.ancestors ++ rows_for_ancestors s))
      by true h rest = subst (λ v. P (ancestors_in v (ancestor_rows e.uid e.ancestors ++ rows_for_ancestors s))) (sym (same_uid u e.uid h)) own
      by false h rest = subst P (sym (ancestors_in-other u e.uid h e.ancestors (rows_for_ancestors s))) rest

none_sorted : IsStrictlySortedBy uid_cmp []
unfolding IsStrictlySortedBy
none_sorted = tt

pub stand_for_them : TablesOfStoresStandForThem
stand_for_them s ids = record {
  store = same_store s s (all_are_their_rows s ids);
  in_order = λ order. record {
    entities = ids;
    attributes = each_fields_in AreOrdered tt (λ e. e.attrs) s ids (all_weaker {P = IsEntityOrdered} {Q = λ e. AreOrdered e.attrs} (λ e h. h.attrs) s order);
    tags = each_fields_in AreOrdered tt (λ e. e.tags) s ids (all_weaker {P = IsEntityOrdered} {Q = λ e. AreOrdered e.tags} (λ e h. h.tags) s order);
    ancestors = each_ancestors_in (IsStrictlySortedBy uid_cmp) none_sorted s ids (all_weaker {P = IsEntityOrdered} {Q = λ e. IsStrictlySortedBy uid_cmp e.ancestors} (λ e h. h.ancestors) s order);
  };
}
