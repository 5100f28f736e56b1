use Rattle.policy_values.proofs.ReadSteps.{datetime_read}
use Rattle.policy_values.proofs.readings.read_datetime.Goals as goal

pub returns : goal.returns
returns c = datetime_read c.args.text.now c.read.result c.read.ensures
