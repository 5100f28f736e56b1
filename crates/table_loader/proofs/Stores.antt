-- The store of tables in order is in order. By recursion on the table of entities: an id is found in the store where it
-- is in the table, and what is found is its entity.
use Rattle.std.proofs.Common.{◌≡◌, Bool, true, false, ◌||◌, List, [], ◌∷◌, map, cond, Some, None, refl, sym, ap, ◌∙◌, subst}
use Rattle.std.specs.Prelude.{if◌then◌else◌}
use Rattle.std.specs.List.Sorted.{IsStrictlySortedBy}
use Rattle.policy_values.specs.Reaches.{has}
use Rattle.policy_values.specs.declared.entity_uid.EntityUID.{EntityUID}
use Rattle.policy_values.specs.Uid.{uid_cmp, uid_eq}
use Rattle.entity_store.specs.Store.{StoredEntity, entity_at}
use Rattle.table_loader.specs.Order.{IsEntityOrdered}
use Rattle.table_loader.proofs.Uids.{same_uid}
use Rattle.table_loader.specs.Tables.{Tables, entity_of, store_of}
use Rattle.table_loader.specs.TableLaws.{StoresOfTablesAreInOrder}

module _ (t : Tables) where
  ids_of_entities : (us : List EntityUID) → map (λ e. e.uid) (map (entity_of t) us) ≡ us
  ids_of_entities [] = refl
  ids_of_entities (u ∷ us) = ap (λ l. u ∷ l) (ids_of_entities us)

  entity_at-map : (us : List EntityUID) (u : EntityUID) →
      entity_at (map (entity_of t) us) u ≡ (if has uid_cmp us u then Some (entity_of t u) else None)
  entity_at-map [] u = refl
  entity_at-map (v ∷ us) u = by (uid_eq u v) refl (entity_at-map us u)
    where
      by : (b : Bool) → uid_eq u v ≡ b →
          entity_at (map (entity_of t) us) u ≡ (if has uid_cmp us u then Some (entity_of t u) else None) →
          cond b (Some (entity_of t v)) (entity_at (map (entity_of t) us) u) ≡ (if b || has uid_cmp us u then Some (entity_of t u) else None)
      by true e rest = ap (λ w. Some (entity_of t w)) (sym (same_uid u v e))
      by false e rest = rest

  -- what is found is the entity of its id
  pub is_entity_of : (u : EntityUID) (e : StoredEntity) → entity_at (store_of t) u ≡ Some e → entity_of t u ≡ e
  is_entity_of u e h = by (has uid_cmp t.entities u) (sym (entity_at-map t.entities u) ∙ h)
    where
      by : (b : Bool) → (if b then Some (entity_of t u) else None) ≡ Some e → entity_of t u ≡ e
      by true k = cc
      by false k = absurd (cc)

pub in_order : StoresOfTablesAreInOrder
in_order t rows = record {
  ids = subst (IsStrictlySortedBy uid_cmp) (sym (ids_of_entities t t.entities)) rows.entities;
  order = λ u e h.
      subst IsEntityOrdered (is_entity_of t u e h)
      record { attrs = rows.attributes u; tags = rows.tags u; ancestors = rows.ancestors u };
  at = entity_at-map t t.entities;
}
