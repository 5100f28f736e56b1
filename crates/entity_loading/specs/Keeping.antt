-- What is kept of the answers of a round.
use Rattle.std.specs.Prelude.{◌≡◌, cond, List, Option, Some, None, IsSomeAnd}
use Rattle.policy_values.specs.declared.entity_uid.EntityUID.{EntityUID}
use Rattle.policy_values.specs.Uid.{uid_eq}
use Rattle.entity_store.specs.Store.{StoredEntity}
use Rattle.reads_spec.specs.Merge.{merge_entities}
use Rattle.access_tries.specs.Table.{Table}
use Rattle.entity_loading.specs.Answered.{SomeAnswerBlocks}
use Rattle.entity_loading.specs.declared.follow.FollowError.{FollowError}
use Rattle.entity_loading.specs.declared.follow.FollowError.TheVariants as follow
use Rattle.entity_loading.specs.declared.place.Place.{Place}
use Rattle.entity_loader.specs.Kept.{kept_with}
use Rattle.entity_loading.specs.declared.error.EntitySliceError.{EntitySliceError}
use Rattle.entity_loading.specs.declared.error.EntitySliceError.TheVariants as error

-- what is kept of each entity
abbrev pub Found : Type 0
Found = EntityUID → Option StoredEntity

-- what is kept of an entity with what was found of it; where nothing was, it stays
abbrev pub kept_and : Option StoredEntity → Option StoredEntity → Option StoredEntity
kept_and o None = o
kept_and o (Some e) = kept_with o e

-- one entity more is kept
pub record Keeps (e : StoredEntity) (old new : Found) : Type 0 where
  pub each : (x : EntityUID) → new x ≡ cond (uid_eq e.uid x) (kept_with (old e.uid) e) (old x)

-- what a trie refuses
abbrev pub refusal_of : FollowError → EntitySliceError
refusal_of (follow.Incompatible v) = error.IncompatibleEntityManifest (record { value = v })
refusal_of follow.OutOfMemory = error.OutOfMemory

-- what is kept of the entity, and what came, do not merge
abbrev pub IsNotKept : EntityUID → Option StoredEntity → StoredEntity → EntitySliceError → Type 0
IsNotKept x o e (error.InconsistentLoader uid kept got) =
    (uid ≡ x) × (got ≡ e) × IsSomeAnd kept (λ k. (o ≡ Some k) × (merge_entities k e ≡ None))
IsNotKept x o e error.OutOfMemory = Unit {0}
IsNotKept x o e c = ⊥

-- of some entity
abbrev pub AreNotKept : Found → Found → EntitySliceError → Type 0
AreNotKept old found (error.InconsistentLoader uid kept got) =
    (found uid ≡ Some got) × IsSomeAnd kept (λ k. (old uid ≡ Some k) × (merge_entities k got ≡ None))
AreNotKept old found error.OutOfMemory = Unit {0}
AreNotKept old found c = ⊥

-- the same, or a path of the trie cannot go on from a value of an answer
abbrev pub AreNotTaken : Table → List Place → Found → Found → EntitySliceError → Type 0
AreNotTaken ns ps old found (error.IncompatibleEntityManifest e) = SomeAnswerBlocks ns found ps e.value
AreNotTaken ns ps old found c = AreNotKept old found c
