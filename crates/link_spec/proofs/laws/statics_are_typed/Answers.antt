use Rattle.link_spec.proofs.laws.statics_are_typed.Goals as goal
use Rattle.link_spec.proofs.Statics.{statics_typed}

pub returns : goal.returns
returns c = statics_typed
