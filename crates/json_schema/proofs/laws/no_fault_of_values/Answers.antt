use Rattle.json_schema.proofs.Fit.{none_is_read}
use Rattle.json_schema.proofs.laws.no_fault_of_values.Goals as goal

pub returns : goal.returns
returns c = none_is_read
