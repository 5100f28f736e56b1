-- The store of tables, and the tables of a store.
use Rattle.std.specs.Prelude.{◌≡◌, Some, None, map, if◌then◌else◌}
use Rattle.std.specs.List.{AllByRecursion}
use Rattle.std.specs.List.Sorted.{IsStrictlySortedBy}
use Rattle.policy_values.specs.Reaches.{has}
use Rattle.policy_values.specs.declared.entity_uid.EntityUID.{EntityUID}
use Rattle.policy_values.specs.Uid.{uid_cmp}
use Rattle.entity_store.specs.Store.{StoredEntity, Store, entity_at}
use Rattle.table_loader.specs.Order.{IsEntityOrdered}
use Rattle.table_loader.specs.Tables.{Tables, AreInOrder, entity_of, store_of, tables_of}

-- keys and ancestors ascend in each entity of the store
abbrev pub IsOrderedStore : Store → Type 0
IsOrderedStore s = (u : EntityUID) (e : StoredEntity) → entity_at s u ≡ Some e → IsEntityOrdered e

-- a store in which all ascends, with an entity exactly for each id in the table of entities
pub record IsStoreOfTables (t : Tables) : Type 0 where
  pub ids : IsStrictlySortedBy uid_cmp (map (λ e. e.uid) (store_of t))
  pub order : IsOrderedStore (store_of t)
  pub at : (u : EntityUID) →
      entity_at (store_of t) u ≡ (if has uid_cmp t.entities u then Some (entity_of t u) else None)

abbrev pub StoresOfTablesAreInOrder : Type 0
StoresOfTablesAreInOrder = (t : Tables) → AreInOrder t → IsStoreOfTables t

-- the tables that a store is written into stand for it, and are in order where its entities are
pub record AreTablesOf (s : Store) : Type 0 where
  pub store : store_of (tables_of s) ≡ s
  pub in_order : AllByRecursion IsEntityOrdered s → AreInOrder (tables_of s)

abbrev pub TablesOfStoresStandForThem : Type 0
TablesOfStoresStandForThem = (s : Store) → IsStrictlySortedBy uid_cmp (map (λ e. e.uid) s) → AreTablesOf s
