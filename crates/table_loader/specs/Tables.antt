-- Tables of entities as plain data, and the store that their rows stand for.
use Rattle.std.specs.Prelude.{ℕ, List, [], ◌∷◌, map, filter, flat_map, if◌then◌else◌}
use Rattle.std.specs.List.Sorted.{IsStrictlySortedBy}
use Rattle.policy_values.specs.declared.entity_uid.EntityUID.{EntityUID}
use Rattle.policy_values.specs.Uid.{uid_cmp, uid_eq}
use Rattle.policy_values.specs.Value.{Val, Fields, no_fields, field}
use Rattle.entity_store.specs.Store.{StoredEntity, Store}
use Rattle.table_loader.specs.Order.{AreOrdered}

-- an attribute or a tag of an entity
pub record FieldRow : Type 0 where
  pub uid : EntityUID
  pub key : List ℕ
  pub value : Val

-- an ancestor of an entity
pub record AncestorRow : Type 0 where
  pub uid : EntityUID
  pub ancestor : EntityUID

-- a table of entities, by their ids, and tables of their attributes, tags and ancestors
pub record Tables : Type 0 where
  pub entities : List EntityUID
  pub attributes : List FieldRow
  pub tags : List FieldRow
  pub ancestors : List AncestorRow

-- the fields of an entity, in the order of their rows
abbrev pub fields_in : EntityUID → List FieldRow → Fields
fields_in u [] = no_fields
fields_in u (r ∷ rs) = if uid_eq u r.uid then field r.key r.value (fields_in u rs) else fields_in u rs

-- the ancestors of an entity, in the order of their rows
abbrev pub ancestors_in : EntityUID → List AncestorRow → List EntityUID
ancestors_in u rs = map (λ r. r.ancestor) (filter (λ r. uid_eq u r.uid) rs)

-- the entity with the id, with what the tables have for it
abbrev pub entity_of : Tables → EntityUID → StoredEntity
entity_of t u = record {
  uid = u;
  attrs = fields_in u t.attributes;
  ancestors = ancestors_in u t.ancestors;
  tags = fields_in u t.tags;
}

-- the store of the tables: an entity for each row of the table of entities
abbrev pub store_of : Tables → Store
store_of t = map (entity_of t) t.entities

-- ids ascend, and in each entity the keys, also those in records, and the ancestors
pub record AreInOrder (t : Tables) : Type 0 where
  pub entities : IsStrictlySortedBy uid_cmp t.entities
  pub attributes : (u : EntityUID) → AreOrdered (fields_in u t.attributes)
  pub tags : (u : EntityUID) → AreOrdered (fields_in u t.tags)
  pub ancestors : (u : EntityUID) → IsStrictlySortedBy uid_cmp (ancestors_in u t.ancestors)

-- a row for each field of an entity
abbrev pub field_rows : EntityUID → Fields → List FieldRow
field_rows u no_fields = []
field_rows u (field k v fs) = record { uid = u; key = k; value = v } ∷ field_rows u fs

-- a row for each ancestor of an entity
abbrev pub ancestor_rows : EntityUID → List EntityUID → List AncestorRow
ancestor_rows u ys = map (λ y. record { uid = u; ancestor = y }) ys

-- the tables that a store is written into
abbrev pub tables_of : Store → Tables
tables_of s = record {
  entities = map (λ e. e.uid) s;
  attributes = flat_map (λ e. field_rows e.uid e.attrs) s;
  tags = flat_map (λ e. field_rows e.uid e.tags) s;
  ancestors = flat_map (λ e. ancestor_rows e.uid e.ancestors) s;
}
