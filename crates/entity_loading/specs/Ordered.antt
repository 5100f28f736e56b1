-- Stores in order, and loaders that say them.
use Rattle.std.specs.Prelude.{◌≡◌, Some, map}
use Rattle.std.specs.List.Sorted.{IsStrictlySortedBy}
use Rattle.policy_values.specs.declared.entity_uid.EntityUID.{EntityUID}
use Rattle.policy_values.specs.Uid.{uid_cmp}
use Rattle.entity_store.specs.Store.{StoredEntity, Store, entity_at}
use Rattle.reads_spec.specs.Merge.{IsEntityOrdered}
use Rattle.entity_loader.specs.State.{LoaderState}

-- keys ascend in the entities of the store, which a loader says and no code holds: parts of an entity whose
-- keys do not ascend may merge to what is no part of it
pub record HasOrder (s : Store) : Type 0 where
  pub each : (x : EntityUID) (e : StoredEntity) → entity_at s x ≡ Some e → IsEntityOrdered e

-- it holds of the store that the loader says, if it says one
abbrev pub WhereKnown : LoaderState → (Store → Type 0) → Type 0
WhereKnown l P = (s : Store) → l.store ≡ Some s → P s

-- it holds of that store where keys ascend in its entities
abbrev pub WhereKeysAscend : LoaderState → (Store → Type 0) → Type 0
WhereKeysAscend l P = (s : Store) → l.store ≡ Some s → HasOrder s → P s

-- it holds of that store where ids ascend in it, and keys in its entities
abbrev pub WhereIdsAscend : LoaderState → (Store → Type 0) → Type 0
WhereIdsAscend l P =
    (s : Store) → l.store ≡ Some s → HasOrder s → IsStrictlySortedBy uid_cmp (map (λ e. e.uid) s) → P s
