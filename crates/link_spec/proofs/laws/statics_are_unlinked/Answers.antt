use Rattle.link_spec.proofs.laws.statics_are_unlinked.Goals as goal
use Rattle.link_spec.proofs.Statics.{statics_unlinked}

pub returns : goal.returns
returns c = statics_unlinked
