-- What contracts see of a loader over rows: the store of the tables that steady rows say, where it is
-- in order.
use Rattle.std.specs.Prelude.{ℕ, Bool, true, false, ◌&&◌, List, [], ◌∷◌, map, Option, Some, None, if◌then◌else◌}
use Rattle.std.specs.List.{list_all}
use Rattle.std.specs.Option.{option_and_then}
use Rattle.std.specs.Ordering.{is_lt}
use Rattle.policy_values.specs.declared.entity_uid.EntityUID.{EntityUID}
use Rattle.policy_values.specs.Uid.{text_cmp, uid_cmp}
use Rattle.policy_values.specs.Value.{Val, rec, Fields, no_fields, field}
use Rattle.entity_store.specs.Store.{StoredEntity, Store}
use Rattle.entity_loader.specs.State.{LoaderState}
use Rattle.table_loader.specs.Tables.{Tables, store_of}
use Rattle.table_loader.specs.RowsState.{RowsState}

-- the key comes before all keys of the fields
abbrev pub is_below_all : List ℕ → Fields → Bool
is_below_all k no_fields = true
is_below_all k (field l v fs) = is_lt (text_cmp k l) && is_below_all k fs

-- keys ascend, in each record that is reached through records
abbrev mutual
  pub is_ordered : Val → Bool
  is_ordered (rec fs) = are_ordered fs
  is_ordered v = true

  pub are_ordered : Fields → Bool
  are_ordered no_fields = true
  are_ordered (field k v fs) = is_below_all k fs && (is_ordered v && are_ordered fs)

-- ids ascend
abbrev pub do_ids_ascend : List EntityUID → Bool
do_ids_ascend [] = true
do_ids_ascend (x ∷ xs) = list_all (λ y. is_lt (uid_cmp x y)) xs && do_ids_ascend xs

-- keys and ancestors ascend in the entity
abbrev pub is_entity_ordered : StoredEntity → Bool
is_entity_ordered e = are_ordered e.attrs && (are_ordered e.tags && do_ids_ascend e.ancestors)

-- ids ascend in the store, and keys and ancestors in each entity
abbrev pub is_store_ordered : Store → Bool
is_store_ordered s = do_ids_ascend (map (λ e. e.uid) s) && list_all is_entity_ordered s

-- the store of the tables, where it is in order
abbrev pub store_in_order : Tables → Option Store
store_in_order t = if is_store_ordered (store_of t) then Some (store_of t) else None

-- the store that is known: of steady rows, where they say tables
abbrev pub store_known : RowsState → Option Store
store_known r = if r.steady then option_and_then store_in_order r.known else None

-- a loader over rows that was asked so often for entities, and for ancestors: it may answer more than what is
-- asked, and never strays
abbrev pub loader_state : RowsState → ℕ → ℕ → LoaderState
loader_state r asked listed = record {
  store = store_known r;
  exact = false;
  faults = r.faults;
  strays = 0;
  rounds = asked;
  lists = listed;
}
