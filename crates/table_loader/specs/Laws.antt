-- The stores that loaders over rows say.
use Rattle.std.specs.Prelude.{◌≡◌, Some, map}
use Rattle.std.specs.List.Sorted.{IsStrictlySortedBy}
use Rattle.policy_values.specs.Uid.{uid_cmp}
use Rattle.entity_store.specs.Store.{Store}
use Rattle.table_loader.specs.TableLaws.{IsOrderedStore}
use Rattle.table_loader.specs.RowsState.{RowsState}
use Rattle.table_loader.specs.State.{store_known}

-- ids ascend in the store, and keys and ancestors in each entity
pub record IsStoreOrdered (s : Store) : Type 0 where
  pub ids : IsStrictlySortedBy uid_cmp (map (λ e. e.uid) s)
  pub order : IsOrderedStore s

-- a store that a loader over rows says is in order
abbrev pub KnownStoresAreOrdered : Type 0
KnownStoresAreOrdered = (r : RowsState) (s : Store) → store_known r ≡ Some s → IsStoreOrdered s
