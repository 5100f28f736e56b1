use Rattle.typing_spec.specs.CapabilityLaws.{alike_back}
use Rattle.typing_spec.proofs.HoldSteps.{alike_holds}
use Rattle.typing_spec.proofs.capability_laws.equal_capabilities_hold_alike.Goals as goal

pub returns : goal.returns
returns c = λ q s k m e. (alike_holds q s k m e, alike_holds q s m k (alike_back k m e))
