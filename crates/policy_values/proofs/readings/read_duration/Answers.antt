use Rattle.policy_values.proofs.ReadSteps.{duration_read}
use Rattle.policy_values.proofs.readings.read_duration.Goals as goal

pub returns : goal.returns
returns c = duration_read c.args.text.now c.read.result c.read.ensures
