use Rattle.typecheck_rules.proofs.Agree.{typed_no_faults}
use Rattle.typecheck_rules.proofs.laws.typed_has_no_faults.Goals as goal

pub returns : goal.returns
returns c = typed_no_faults
