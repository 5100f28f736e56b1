use Rattle.conformance.proofs.Known.{all_known}
use Rattle.conformance.proofs.laws.all_functions_are_known.Goals as goal

pub returns : goal.returns
returns c = all_known
