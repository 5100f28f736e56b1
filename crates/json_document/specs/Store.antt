-- The store that the entities of a document make.
use Rattle.std.specs.Prelude.{◌≡◌, ⊤, List, [], Result, Ok, Err}
use Rattle.std.specs.Ordering.{nat_cmp}
use Rattle.policy_values.specs.Least.{IsLeast}
use Rattle.policy_values.specs.Repeated.{IsRepeated, StandsEarlier}
use Rattle.policy_values.specs.declared.entity_uid.EntityUID.{EntityUID}
use Rattle.entity_store.specs.Store.{StoredEntity, Store}
use Rattle.entity_store.specs.FromParents.{ids_of, IsFromParents, IsRefused}
use Rattle.entity_store.specs.declared.entities.EntitiesError.{EntitiesError}
use Rattle.entity_store.specs.declared.entities.EntitiesError.TheVariants as refused
use Rattle.serde_json.specs.Data.{Items}
use Rattle.json_document.specs.Entities.{entities_of, index_from}
use Rattle.json_document.specs.declared.place.Place.{Place}
use Rattle.json_document.specs.declared.place.Place.TheVariants.{EntityDuplicate, EntityCycle}
use Rattle.json_document.specs.declared.place.DocumentFault.{DocumentFault}
use Rattle.json_document.specs.declared.place.DocumentFault.TheVariants as fault

-- the place of the fault for which the entities make no store: the first id that stands earlier; where none
-- does, the entity of the least id that is its own ancestor
abbrev pub IsStoreFault : List StoredEntity → Place → Type 0
IsStoreFault es (EntityDuplicate i) = IsLeast nat_cmp (StandsEarlier (ids_of es)) i
IsStoreFault es (EntityCycle i) =
    (uid : EntityUID) × IsRefused es (refused.Cycle uid) × (i ≡ index_from 0 uid (ids_of es))
IsStoreFault es _ = ⊥

-- what reading comes to where these entities are read, or a place before
abbrev pub IsStoreFrom : Result (List StoredEntity) Place → Result Store Place → Type 0
IsStoreFrom (Err p) r = r ≡ Err p
IsStoreFrom (Ok es) (Ok store) = IsFromParents es store
IsStoreFrom (Ok es) (Err p) = IsStoreFault es p

-- the store that the entities of the items make with their parents, or the place of the first fault
abbrev pub IsStoreOf : Items → Result Store Place → Type 0
IsStoreOf ds r = IsStoreFrom (entities_of [] ds) r

-- a refusal for a repeated id has one among the ids
abbrev pub IsRepeatedIfDuplicate : List EntityUID → EntitiesError → Type 0
IsRepeatedIfDuplicate ids (refused.Duplicate u) = (uid : EntityUID) × IsRepeated ids uid
IsRepeatedIfDuplicate ids (refused.Cycle u) = ⊤
IsRepeatedIfDuplicate ids refused.OutOfMemory = ⊤

-- where the refusal has its place
abbrev pub IsPlaceOf : List EntityUID → EntitiesError → DocumentFault → Type 0
IsPlaceOf ids error fault.OutOfMemory = ⊤
IsPlaceOf ids (refused.Duplicate u) (fault.Place (EntityDuplicate i)) = IsLeast nat_cmp (StandsEarlier ids) i
IsPlaceOf ids (refused.Cycle u) (fault.Place (EntityCycle i)) = i ≡ index_from 0 u ids
IsPlaceOf ids _ _ = ⊥
