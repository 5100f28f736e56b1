use Rattle.typing_spec.specs.CapabilityLaws.{same_known_decides}
use Rattle.typing_spec.proofs.capability_laws.equal_sets_know_the_same.Goals as goal

pub returns : goal.returns
returns c = same_known_decides
