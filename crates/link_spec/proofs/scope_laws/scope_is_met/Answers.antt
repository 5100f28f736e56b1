use Rattle.link_spec.proofs.Whole.{scope_met}
use Rattle.link_spec.proofs.scope_laws.scope_is_met.Goals as goal

pub returns : goal.returns
returns c = scope_met
