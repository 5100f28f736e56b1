-- What comes for requests.
use Rattle.std.specs.Prelude.{◌≡◌, ◌≢◌, Bool, false, cond, List, [], ◌∷◌, Option, Some, None}
use Rattle.std.specs.BTreeMap.{BTreeMap, get}
use Rattle.std.specs.List.{list_any, AllZip, AllByRecursion}
use Rattle.policy_values.specs.declared.entity_uid.EntityUID.{EntityUID}
use Rattle.policy_values.specs.Uid.{uid_cmp, uid_eq}
use Rattle.entity_store.specs.Store.{StoredEntity, Store}
use Rattle.entity_loader.specs.declared.loader.EntityRequest.{EntityRequest}
use Rattle.entity_loader.specs.Answers.{Fits, IsHonest}
use Rattle.entity_loading.specs.declared.error.EntitySliceError.{EntitySliceError}
use Rattle.entity_loading.specs.declared.error.EntitySliceError.TheVariants as error

-- each entity stands under its id
abbrev pub AreUnderIds : BTreeMap EntityUID StoredEntity → Type 0
AreUnderIds found = (x : EntityUID) (e : StoredEntity) → get uid_cmp found x ≡ Some e → e.uid ≡ x

-- what comes for the id, where answers stand in the order of requests; else what was there
abbrev pub answered : Option StoredEntity → List EntityRequest →
    List (Option StoredEntity) → EntityUID → Option StoredEntity
answered o [] os x = o
answered o (r ∷ rs) [] x = o
answered o (r ∷ rs) (None ∷ os) x = answered o rs os x
answered o (r ∷ rs) (Some e ∷ os) x = answered (cond (uid_eq r.entity_id x) (Some e) o) rs os x

-- what comes is of another id
abbrev pub IsStray : EntityUID → StoredEntity → EntitySliceError → Type 0
IsStray uid e (error.InconsistentLoader u kept got) = (kept ≡ None) × (got ≡ e) × (u ≡ uid) × (e.uid ≢ uid)
IsStray uid e error.OutOfMemory = Unit {0}
IsStray uid e c = ⊥

abbrev pub IsStrayAnswer : EntityUID → Option StoredEntity → EntitySliceError → Type 0
IsStrayAnswer uid (Some e) c = IsStray uid e c
IsStrayAnswer uid None c = ⊥

-- the answer is put under the id, which is its own; an absent one changes nothing
abbrev pub IsPut : EntityUID → Option StoredEntity →
    (EntityUID → Option StoredEntity) → (EntityUID → Option StoredEntity) → Type 0
IsPut uid (Some e) old new = ((x : EntityUID) → new x ≡ cond (uid_eq uid x) (Some e) (old x)) × (e.uid ≡ uid)
IsPut uid None old new = (x : EntityUID) → new x ≡ old x

-- some answer is of another id than the one that was asked for
abbrev pub AreStray : List EntityRequest → List (Option StoredEntity) → EntitySliceError → Type 0
AreStray rs os (error.InconsistentLoader u kept got) = (got.uid ≢ u) × (AllZip Fits rs os → ⊥)
AreStray rs os error.OutOfMemory = Unit {0}
AreStray rs os c = ⊥

-- for each request an honest answer, and nothing else
pub record AreHonest (exact : Bool) (s : Store) (rs : List EntityRequest)
    (found : EntityUID → Option StoredEntity) : Type 0 where
  pub each : AllByRecursion (λ r. IsHonest exact s r (found r.entity_id)) rs
  pub others : (x : EntityUID) → list_any (λ r. uid_eq r.entity_id x) rs ≡ false → found x ≡ None
