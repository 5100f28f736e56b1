use Rattle.policy_values.proofs.ReadSteps.{reads_grammars}
use Rattle.policy_values.proofs.laws.constructors_read_the_grammars.Goals as goal

pub returns : goal.returns
returns c = reads_grammars
