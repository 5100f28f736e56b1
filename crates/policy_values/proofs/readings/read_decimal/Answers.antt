use Rattle.policy_values.proofs.ReadSteps.{decimal_read}
use Rattle.policy_values.proofs.readings.read_decimal.Goals as goal

pub returns : goal.returns
returns c = decimal_read c.args.text.now c.read.result c.read.ensures
