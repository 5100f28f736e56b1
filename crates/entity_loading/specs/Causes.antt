-- Why nothing is loaded.
use Rattle.std.specs.Prelude.{◌≡◌, ◌≢◌, ◌⊎◌, None, IsSomeAnd, Result, Ok, Err}
use Rattle.byte_streams.specs.Steps.{Rose}
use Rattle.policy_values.specs.declared.entity_uid.EntityUID.{EntityUID}
use Rattle.entity_store.specs.Store.{StoredEntity}
use Rattle.policy_values.specs.Value.{Val}
use Rattle.reads_spec.specs.Merge.{merge_entities}
use Rattle.entity_loader.specs.State.{LoaderState}
use Rattle.entity_loading.specs.declared.error.EntitySliceError.{EntitySliceError}
use Rattle.entity_loading.specs.declared.error.EntitySliceError.TheVariants as error

-- what was kept and what came are of the id, and do not merge
abbrev pub Differ : EntityUID → StoredEntity → StoredEntity → Type 0
Differ uid kept got = (kept.uid ≡ uid) × (got.uid ≡ uid) × (merge_entities kept got ≡ None)

-- each refusal with its cause; the value of an incompatible trie is such as P says
abbrev pub CauseOf : (Val → Type 0) → LoaderState → LoaderState → EntitySliceError → Type 0
CauseOf P old new (error.PartialRequest e) = ⊥
CauseOf P old new (error.IncompatibleEntityManifest e) = P e.value
CauseOf P old new (error.WrongNumberOfEntities e) = (e.expected ≢ e.got) × Rose old.strays new.strays
CauseOf P old new (error.WrongNumberOfAncestors expected got) = (expected ≢ got) × Rose old.strays new.strays
CauseOf P old new (error.InconsistentLoader uid kept got) =
    ((got.uid ≢ uid) × Rose old.strays new.strays) ⊎ IsSomeAnd kept (λ k. Differ uid k got)
CauseOf P old new error.LoaderFault = Rose old.faults new.faults
CauseOf P old new error.OutOfMemory = Unit {0}

-- why a loader that says its store is refused: never for what it answers
abbrev pub IsRight : (Val → Type 0) → LoaderState → LoaderState → EntitySliceError → Type 0
IsRight P old new (error.IncompatibleEntityManifest e) = P e.value
IsRight P old new error.LoaderFault = Rose old.faults new.faults
IsRight P old new error.OutOfMemory = Unit {0}
IsRight P old new e = ⊥

-- an entry of the request is not known
abbrev pub IsPartial : {X : Type 0} → Result X EntitySliceError → Type 0
IsPartial (Ok x) = ⊥
IsPartial (Err (error.PartialRequest e)) = Unit {0}
IsPartial (Err e) = ⊥
