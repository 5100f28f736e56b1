-- What rows of a store in memory say, and which of their calls fail.
use Rattle.std.specs.Prelude.{◌≡◌, ◌↔◌, ◌+◌, ◌-◌, ◌^◌, Bool, true, Some, IsTrue, Contains, min}
use Rattle.table_loader.specs.Tables.{tables_of}
use Rattle.table_loader.specs.RowsState.{RowsState}
use Rattle.table_loader.specs.declared.memory.MemoryRows.{MemoryRows}
use Rattle.table_loader.specs.declared.store.StoreRows.{StoreRows}

-- steady rows of the store, whose calls never fail
abbrev pub store_state : StoreRows → RowsState
store_state r = record { known = Some (tables_of r.entities.now); steady = true; faults = 0 }

-- steady rows of the store
abbrev pub memory_state : MemoryRows → RowsState
memory_state r = record { known = Some (tables_of r.entities.now); steady = true; faults = r.faults }

-- a call fails exactly where its number is listed, and the next call has the next number
pub record IsCall (old new : MemoryRows) (failed : Bool) : Type 0 where
  pub listed : IsTrue failed ↔ Contains old.failing.items old.calls
  pub failing : new.failing ≡ old.failing
  pub next : new.calls ≡ min (old.calls + 1) (2 ^ 64 - 1)
