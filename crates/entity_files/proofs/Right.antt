-- What is right of what is read.
use Rattle.std.proofs.Common.{◌≡◌, List, Option, Some, None, Result, Ok, Err, ap, ◌∙◌}
use Rattle.sqlite.specs.Order.{Row}
use Rattle.entity_store.specs.Store.{Store}
use Rattle.entity_store.proofs.OneStore.{one_store}
use Rattle.schema_core.specs.Schema.{SchemaData}
use Rattle.policy_values.specs.declared.entity_uid.EntityUID.{EntityUID}
use Rattle.conformance.specs.StoreRules.{first_store_fault, IsConformanceFault}
use Rattle.conformance.specs.declared.store_rule.StoreRule.{StoreRule}
use Rattle.conformance.specs.declared.store_rule.ConformanceError.{ConformanceError}
use Rattle.conformance.specs.declared.store_rule.ConformanceError.TheVariants.{EntityDoesNotConform, OutOfMemory}
use Rattle.entity_files.specs.declared.fault.FileError.{FileError}
use Rattle.entity_files.specs.declared.fault.FileError.TheVariants as fault
use Rattle.entity_files.specs.Rows.{row_entities, AreAll, IsDatabaseError, IsRight, RowsConform}

-- where nothing is right, every error is
pub none_right : {X : Type 0} (P : X → Type 0) → ((x : X) → ¬ P x) → (e : FileError) → IsRight P (Err e)
none_right P h (fault.Database text) = tt
none_right P h fault.OtherSchema = tt
none_right P h fault.InTransaction = tt
none_right P h (fault.Row text) = h
none_right P h (fault.Refused text) = h
none_right P h fault.OutOfMemory = tt

-- an error stays right of what is right of less
pub still_right : {X Y : Type 0} (P : X → Type 0) (Q : Y → Type 0) → (((x : X) → ¬ P x) → (y : Y) → ¬ Q y) → (e : FileError) → IsRight P (Err e) → IsRight Q (Err e)
still_right P Q h (fault.Database text) k = tt
still_right P Q h fault.OtherSchema k = tt
still_right P Q h fault.InTransaction k = tt
still_right P Q h (fault.Row text) k = h k
still_right P Q h (fault.Refused text) k = h k
still_right P Q h fault.OutOfMemory k = tt

pub right_as : {X : Type 0} (P Q : X → Type 0) → ((x : X) → P x → Q x) → ((x : X) → Q x → P x) → (r : Result X FileError) → IsRight P r → IsRight Q r
right_as P Q to back (Ok x) h = to x h
right_as P Q to back (Err e) h = still_right P Q (λ none x q. none x (back x q)) e h

-- ---- the store

pub fault_is : (found : Option (EntityUID × StoreRule)) (e : ConformanceError) → IsConformanceFault found e → ¬ (found ≡ None)
fault_is None (EntityDoesNotConform f) h is = cc
fault_is None OutOfMemory h is = cc
fault_is (Some f) e h is = cc

pub conform : (schema : SchemaData) (rows : List Row) (w : Store) (r : Result (Unit {0}) FileError) → AreAll rows w → IsRight (λ _. first_store_fault schema w ≡ None) r → IsRight (λ _. RowsConform schema rows) r
conform schema rows w (Ok done) all h = (w, all, h)
conform schema rows w (Err e) all h = still_right (λ (_ : Unit {0}). first_store_fault schema w ≡ None) (λ (_ : Unit {0}). RowsConform schema rows) refuse e h
  where
    refuse : ((x : Unit {0}) → ¬ (first_store_fault schema w ≡ None)) → (y : Unit {0}) → ¬ RowsConform schema rows
    refuse none y (v, of, is) = none tt (ap (first_store_fault schema) (one_store (row_entities rows) w v all.made of.made) ∙ is)

pub no_store : (schema : SchemaData) (rows : List Row) (e : FileError) → IsRight (AreAll rows) (Err e) → IsRight (λ (_ : Unit {0}). RowsConform schema rows) (Err e)
no_store schema rows e h = still_right (AreAll rows) (λ (_ : Unit {0}). RowsConform schema rows) (λ none y (v, of, is). none v of) e h

pub database_right : {X : Type 0} (P : X → Type 0) (e : FileError) → IsDatabaseError e → IsRight P (Err e)
database_right P (fault.Database text) h = tt
database_right P fault.OtherSchema h = tt
database_right P fault.InTransaction h = tt
database_right P (fault.Row text) h = absurd h
database_right P (fault.Refused text) h = absurd h
database_right P fault.OutOfMemory h = tt
