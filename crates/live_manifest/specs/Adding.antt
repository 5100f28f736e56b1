-- What adding one policy does to the manifest and to the tries that are kept.
use Rattle.std.specs.Prelude.{◌≡◌, ℕ, false, List}
use Rattle.std.specs.BTreeMap.{BTreeMap}
use Rattle.std.specs.declared.vec.Vec.{Vec}
use Rattle.std.specs.declared.alloc.Global.{Global}
use Rattle.access_tries.specs.Table.{Table}
use Rattle.schema_core.specs.Schema.{SchemaData}
use Rattle.policy_set.specs.Data.{PolicyData}
use Rattle.policy_set.specs.PolicySet.{PolicySetData, is_taken, with_policy}
use Rattle.policy_validate.specs.Accepted.{IsAccepted}
use Rattle.manifest_core.specs.Manifest.{Manifest}
use Rattle.manifest_computation.specs.Computed.{IsManifestOf}
use Rattle.live_manifest.specs.Tries.{HaveTries}

-- under each id the tries of a policy
abbrev pub Tries : Type 0
Tries = BTreeMap (List ℕ) (Vec Table Global)

-- the second set is the first with the policy, whose id was free, and it is accepted
pub record IsWith (schema : SchemaData) (s : PolicySetData)
    (p : PolicyData) (new : PolicySetData) : Type 0 where
  pub policies : new ≡ with_policy p s
  pub free : is_taken s p.id ≡ false
  pub accepted : IsAccepted schema new

-- the manifest of a set and the tries of its policies become those of the set with what has the id
abbrev pub AddsTo : SchemaData → PolicySetData → List ℕ → Tries → Tries → Manifest → Manifest → Type 0
AddsTo schema new id before after m n =
    (s : PolicySetData) (p : PolicyData) → p.id ≡ id → IsWith schema s p new →
    IsManifestOf schema s.policies m → HaveTries schema before s.policies →
    IsManifestOf schema new.policies n × HaveTries schema after new.policies
