-- What contracts see of rows, and what the tables have for an id, a key or a pair of ids.
use Rattle.std.specs.Prelude.{◌≡◌, ◌≤◌, ℕ, Bool, true, false, List, Option, Some, Result, Err, Contains, IsSomeAnd, is_some}
use Rattle.std.specs.Option.{option_and_then, option_map_or}
use Rattle.byte_streams.specs.Steps.{Rose}
use Rattle.policy_values.specs.declared.entity_uid.EntityUID.{EntityUID}
use Rattle.policy_values.specs.Value.{Val, Fields, no_fields, field_at}
use Rattle.entity_store.specs.Store.{entity_at}
use Rattle.table_loader.specs.Tables.{Tables, store_of}
use Rattle.table_loader.specs.declared.rows.RowsError.{RowsError}
use Rattle.table_loader.specs.declared.rows.RowsError.TheVariants.{Failed}

pub record RowsState : Type 0 where
  -- the tables, where they are known
  pub known : Option Tables
  -- whether tables that are known stay known, and failed calls alone are counted
  pub steady : Bool
  -- how often a call has failed
  pub faults : ℕ

-- over a call: tables that are known after it were known before it, and are the same; the count does not fall
pub record RowsContinue (old new : RowsState) : Type 0 where
  pub known : (t : Tables) → new.known ≡ Some t → old.known ≡ Some t
  pub steady : new.steady ≡ old.steady
  pub stays : old.steady ≡ true → new.known ≡ old.known
  pub faults : old.faults ≤ new.faults

-- whether the call failed, and not for lack of memory
abbrev pub has_failed : {X : Type 0} → Result X RowsError → Bool
has_failed (Err Failed) = true
has_failed r = false

-- a call that failed was counted; where the rows are steady, another one was not
abbrev pub IsCounted : Bool → RowsState → RowsState → Type 0
IsCounted true old new = Rose old.faults new.faults
IsCounted false old new = old.steady ≡ true → new.faults ≡ old.faults

-- whether the store of the tables has the entity
abbrev pub has_entity : Tables → EntityUID → Bool
has_entity t u = is_some (entity_at (store_of t) u)

-- the attribute of the entity in that store, where it has one
abbrev pub attribute_at : Tables → EntityUID → List ℕ → Option Val
attribute_at t u k = option_and_then (λ e. field_at e.attrs k) (entity_at (store_of t) u)

-- all tags of the entity in that store; none where it has no such entity
abbrev pub tags_at : Tables → EntityUID → Fields
tags_at t u = option_map_or (λ e. e.tags) (entity_at (store_of t) u) no_fields

-- the entity has the ancestor in that store
abbrev pub TablesHaveAncestor : Tables → EntityUID → EntityUID → Type 0
TablesHaveAncestor t u y = IsSomeAnd (entity_at (store_of t) u) (λ e. Contains e.ancestors y)
