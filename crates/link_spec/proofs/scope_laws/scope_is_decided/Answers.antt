use Rattle.link_spec.proofs.Whole.{scope_decided}
use Rattle.link_spec.proofs.scope_laws.scope_is_decided.Goals as goal

pub returns : goal.returns
returns c = scope_decided
