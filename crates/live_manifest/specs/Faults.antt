-- Why an entry is not added, as the parts of an edit say it.
use Rattle.std.specs.Prelude.{◌≡◌, ⊤, []}
use Rattle.finding_messages.specs.Findings.{Findings}
use Rattle.policy_set.specs.declared.policy_set.PolicySetError.{PolicySetError}
use Rattle.policy_set.specs.declared.policy_set.PolicySetError.TheVariants.{OutOfMemory}
use Rattle.live_manifest.specs.declared.error.LiveManifestError.{LiveManifestError}
use Rattle.live_manifest.specs.declared.error.LiveManifestError.TheVariants as refused

-- there are errors among the findings, or there was no memory
abbrev pub IsFaulty : Findings → LiveManifestError → Type 0
IsFaulty found (refused.PolicySet fault) = ⊥
IsFaulty found (refused.Validation reported) = (reported ≡ found) × ¬ (found.errors ≡ [])
IsFaulty found refused.OutOfMemory = ⊤

-- the error of the set, where it is not that there was no memory
abbrev pub IsNotAddedFor : PolicySetError → LiveManifestError → Type 0
IsNotAddedFor OutOfMemory error = error ≡ refused.OutOfMemory
IsNotAddedFor fault error = error ≡ refused.PolicySet fault
