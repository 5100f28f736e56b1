-- The order of stores of rows.
use Rattle.std.specs.Prelude.{◌≡◌, List, Some}
use Rattle.sqlite.specs.Order.{Row}
use Rattle.entity_store.specs.Store.{Store}
use Rattle.table_loader.specs.Laws.{IsStoreOrdered}
use Rattle.entity_files.specs.Made.{made_of}
use Rattle.entity_files.specs.Rows.{row_entities}

-- in a store that is made of rows ids ascend, and keys and ancestors in each entity
abbrev pub StoresOfRowsAreInOrder : Type 0
StoresOfRowsAreInOrder = (rs : List Row) (w : Store) → made_of (row_entities rs) ≡ Some w → IsStoreOrdered w
