-- A schema with a set of policies under edits, and its manifest.
use Rattle.std.specs.Prelude.{◌≡◌, ⊤, ℕ, List, [], Option, Some, None, refl}
use Rattle.std.specs.Coded.{Coded, coded×, code_by}
use Rattle.schema_core.specs.Schema.{SchemaData, coded_schema}
use Rattle.policy_set.specs.PolicySet.{PolicySetData, coded_set}
use Rattle.policy_set.specs.Removal.{IsNotRemoved}
use Rattle.manifest_core.specs.Manifest.{Manifest, coded_manifest}
use Rattle.manifest_computation.specs.Computed.{IsManifestOf}
use Rattle.policy_validate.specs.Accepted.{IsAccepted}
use Rattle.live_manifest.specs.Edits.{Edit, Refusal, errors, not_added, made, refusal, no_policies}
use Rattle.live_manifest.specs.declared.error.LiveManifestError.{LiveManifestError}
use Rattle.live_manifest.specs.declared.error.LiveManifestError.TheVariants as refused
use Rattle.live_manifest.specs.declared.error.LiveRemovalError.{LiveRemovalError}
use Rattle.live_manifest.specs.declared.error.LiveRemovalError.TheVariants as unremoved

-- a schema with a set of policies under edits
pub record EditedData : Type 0 where
  pub schema : SchemaData
  pub policies : PolicySetData

abbrev pub coded_edited : Coded EditedData
coded_edited =
    code_by (SchemaData × PolicySetData) (coded× coded_schema coded_set)
    (λ l. (l.schema, l.policies)) (λ p. record { schema = p.0; policies = p.1 }) (λ _. refl)

-- and with their manifest
pub record LiveData : Type 0 where
  pub schema : SchemaData
  pub policies : PolicySetData
  pub manifest : Manifest

abbrev pub coded_live : Coded LiveData
coded_live =
    code_by (SchemaData × (PolicySetData × Manifest))
    (coded× coded_schema (coded× coded_set coded_manifest))
    (λ l. (l.schema, (l.policies, l.manifest)))
    (λ p. record { schema = p.0; policies = p.1.0; manifest = p.1.1 })
    (λ _. refl)

abbrev pub edited : LiveData → EditedData
edited l = record { schema = l.schema; policies = l.policies }

-- the policies are accepted, and the manifest is theirs
pub record IsKept (l : LiveData) : Type 0 where
  pub accepted : IsAccepted l.schema l.policies
  pub manifest : IsManifestOf l.schema l.policies.policies l.manifest

-- without policies
pub record IsWithoutPolicies (l : LiveData) : Type 0 where
  pub policies : l.policies ≡ no_policies
  pub manifest : l.manifest ≡ []

-- the edit is not refused, and it is made
pub record IsMade (e : Edit) (old new : EditedData) : Type 0 where
  pub taken : refusal old.schema old.policies e ≡ None
  pub schema : new.schema ≡ old.schema
  pub policies : new.policies ≡ made e old.policies

-- why an entry is not added: the set does not take it; there are errors in it; there was no memory
abbrev pub IsRefusedFor : Option Refusal → LiveManifestError → Type 0
IsRefusedFor why (refused.PolicySet fault) = why ≡ Some (not_added fault)
IsRefusedFor why (refused.Validation found) = why ≡ Some (errors found)
IsRefusedFor why refused.OutOfMemory = ⊤

abbrev pub IsEditRefused : Edit → EditedData → LiveManifestError → Type 0
IsEditRefused e old error = IsRefusedFor (refusal old.schema old.policies e) error

-- why an entry is not removed: there is none, or it is in use; there was no memory
abbrev pub IsNotTaken : List ℕ → EditedData → LiveRemovalError → Type 0
IsNotTaken id old (unremoved.PolicySet fault) = IsNotRemoved old.policies id fault
IsNotTaken id old unremoved.OutOfMemory = ⊤
