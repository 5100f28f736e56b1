-- What deciding on what was looked up so far comes to.
use Rattle.std.specs.Prelude.{◌≡◌, ⊤, List, Option, Some, Result, Ok, Err}
use Rattle.entity_store.specs.declared.request.Request.{Request}
use Rattle.entity_store.specs.Store.{Store}
use Rattle.policy_set.specs.Data.{PolicyData}
use Rattle.policy_set.specs.Response.{response}
use Rattle.schema_core.specs.Schema.{SchemaData}
use Rattle.typing_spec.specs.Conforms.{StoreConforms}
use Rattle.entity_manifest.specs.declared.EntitySliceError.{EntitySliceError}
use Rattle.entity_manifest.specs.declared.EntitySliceError.TheVariants as error
use Rattle.directory_service.specs.declared.attempt.Attempt.{Attempt}
use Rattle.directory_service.specs.declared.attempt.Attempt.TheVariants.{Decided, Missing, Refused}
use Rattle.directory_service.specs.declared.attempt.MissingIds.{MissingIds}

-- it holds of the store that is known, where it conforms to the schema
abbrev pub OfStore : SchemaData → Option Store → (Store → Type 0) → Type 0
OfStore schema told P = (w : Store) → told ≡ Some w → StoreConforms schema w → P w

-- a decision is the response on the store; ids may be missing, and it is not refused
abbrev pub IsAttempt : List PolicyData → Request → Store → Attempt → Type 0
IsAttempt ps q w (Decided r) = r ≡ response ps q w
IsAttempt ps q w (Missing ids) = ⊤
IsAttempt ps q w (Refused e) = ⊥

-- what loading a part of the store came to makes this attempt
abbrev pub Becomes : List PolicyData → Request → Result Store EntitySliceError → Attempt → Type 0
Becomes ps q (Ok s) a = a ≡ Decided (response ps q s)
Becomes ps q (Err error.LoaderFault) a = (ids : MissingIds) × (a ≡ Missing ids)
Becomes ps q (Err error.OutOfMemory) a = ⊥
Becomes ps q (Err e) a = a ≡ Refused e
