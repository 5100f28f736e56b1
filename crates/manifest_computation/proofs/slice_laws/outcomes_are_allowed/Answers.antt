use Rattle.manifest_computation.proofs.Covering.{allowed}
use Rattle.manifest_computation.proofs.slice_laws.outcomes_are_allowed.Goals as goal

pub returns : goal.returns
returns c = allowed c.policies_are_covered.ensures c.typed_everywhere.ensures c.accepted_are_typed.ensures c.accepted_are_sound.ensures
