-- What holds of sets of policies under edits.
use Rattle.std.specs.Prelude.{◌≡◌}
use Rattle.schema_core.specs.Schema.{SchemaData}
use Rattle.policy_set.specs.PolicySet.{PolicySetData, IsPolicySet}
use Rattle.policy_validate.specs.Accepted.{IsAccepted}
use Rattle.manifest_core.specs.Laws.{AreSameEntries}
use Rattle.manifest_core.specs.Manifest.{Manifest}
use Rattle.manifest_core.specs.ManifestJson.{manifest_data}
use Rattle.manifest_computation.specs.Computed.{IsManifestOf}
use Rattle.live_manifest.specs.Edits.{Edit, after_edit}
use Rattle.live_manifest.specs.Kept.{IsKept, LiveData}

-- an accepted set is accepted after an edit, which may be refused
abbrev pub EditsKeepAcceptance : Type 0
EditsKeepAcceptance = (schema : SchemaData) (s : PolicySetData) → IsPolicySet s → IsAccepted schema s →
    (e : Edit) → IsAccepted schema (after_edit schema s e)

-- the manifest that is kept is the one that is computed of the policies: the same request types, with the
-- same tries; and both are the same JSON
abbrev pub KeptAreComputed : Type 0
KeptAreComputed = (l : LiveData) → IsKept l → (m : Manifest) → IsManifestOf l.schema l.policies.policies m →
    AreSameEntries l.manifest m × (manifest_data l.manifest ≡ manifest_data m)
