-- The slice is enough.
use Rattle.std.specs.Prelude.{◌≡◌, List}
use Rattle.entity_store.specs.declared.request.Request.{Request}
use Rattle.entity_store.specs.Store.{Store}
use Rattle.policy_set.specs.Data.{PolicyData}
use Rattle.policy_set.specs.PolicySet.{PolicySetData, IsPolicySet, AreKeyedOnce}
use Rattle.policy_set.specs.Allowed.{AreAllowed}
use Rattle.policy_set.specs.Response.{outcomes, response}
use Rattle.schema_core.specs.Faults.{IsSchema}
use Rattle.schema_core.specs.Schema.{SchemaData}
use Rattle.reads_spec.specs.Cover.{IsPartOf}
use Rattle.manifest_computation.specs.Slice.{slice}
use Rattle.manifest_computation.specs.Rules.{KeepReachedRules}

-- on each store between the slice and the whole one, each policy has the outcome that it has on the whole one
abbrev pub KeepsOutcomes : List PolicyData → Request → Store → Store → Type 0
KeepsOutcomes ps q part whole =
    (s : Store) → IsPartOf part s → IsPartOf s whole → outcomes ps q s ≡ outcomes ps q whole

-- on each store between the slice and the whole one, each policy has an outcome that is allowed: a truth
-- value, a missing entity or an overflow
abbrev pub AreAllowedBetween : List PolicyData → Request → Store → Store → Type 0
AreAllowedBetween ps q part whole = (s : Store) → IsPartOf part s → IsPartOf s whole → AreAllowed ps q s

-- the part is one of the store. On it, and on each store between the two, each policy has the outcome that it
-- has on the whole store, which is allowed; and the response on the part is that on the whole store
pub record IsEnough (ps : List PolicyData) (q : Request) (part whole : Store) : Type 0 where
  pub is_part : IsPartOf part whole
  pub same : outcomes ps q part ≡ outcomes ps q whole
  pub allowed : AreAllowed ps q part
  pub decision : response ps q part ≡ response ps q whole
  pub covers : KeepsOutcomes ps q part whole
  pub allowed_between : AreAllowedBetween ps q part whole

-- each policy has the same outcome on both stores, and so the response is the same
pub record AreDecidedAlike (ps : List PolicyData) (q : Request) (s t : Store) : Type 0 where
  pub outcomes : outcomes ps q s ≡ outcomes ps q t
  pub response : response ps q s ≡ response ps q t

-- where every rule holds, the slice is enough; the store has to conform only where it is reached
abbrev pub SlicesAreEnough : Type 0
SlicesAreEnough =
    (schema : SchemaData) → IsSchema schema → (policies : PolicySetData) → IsPolicySet policies →
    AreKeyedOnce policies.policies →
    (q : Request) (s : Store) → KeepReachedRules schema policies q s →
    IsEnough policies.policies q (slice schema policies.policies q s) s

-- there each policy has an outcome on the store that is allowed
abbrev pub OutcomesAreAllowed : Type 0
OutcomesAreAllowed =
    (schema : SchemaData) → IsSchema schema → (policies : PolicySetData) → IsPolicySet policies →
    AreKeyedOnce policies.policies →
    (q : Request) (s : Store) → KeepReachedRules schema policies q s → AreAllowed policies.policies q s

-- stores that keep every rule and have one slice for a request decide it alike
abbrev pub EqualSlicesDecideAlike : Type 0
EqualSlicesDecideAlike =
    (schema : SchemaData) → IsSchema schema → (policies : PolicySetData) → IsPolicySet policies →
    AreKeyedOnce policies.policies → (q : Request)
    (s t : Store) → KeepReachedRules schema policies q s → KeepReachedRules schema policies q t →
    slice schema policies.policies q s ≡ slice schema policies.policies q t →
    AreDecidedAlike policies.policies q s t
