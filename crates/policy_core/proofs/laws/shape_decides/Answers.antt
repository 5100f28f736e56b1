use Rattle.policy_core.proofs.LawSteps.{same_outcome}
use Rattle.policy_core.proofs.laws.shape_decides.Goals as goal

pub returns : goal.returns
returns g c = λ x u h q s. same_outcome q s x u h
