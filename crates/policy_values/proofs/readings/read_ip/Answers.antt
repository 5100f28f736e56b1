use Rattle.policy_values.proofs.ReadSteps.{range_read}
use Rattle.policy_values.proofs.readings.read_ip.Goals as goal

pub returns : goal.returns
returns c = range_read c.args.text.now c.read.result c.read.ensures
