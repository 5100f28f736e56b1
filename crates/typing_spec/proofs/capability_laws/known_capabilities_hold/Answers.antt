use Rattle.typing_spec.proofs.HoldSteps.{known_holds, all_hold}
use Rattle.typing_spec.proofs.capability_laws.known_capabilities_hold.Goals as goal

pub returns : goal.returns
returns c = λ q s cs. (λ h k e. known_holds q s cs k h e, all_hold q s cs)
