use Rattle.link_spec.proofs.laws.filled_keeps.Goals as goal
use Rattle.link_spec.proofs.Statics.{keeps_filled}

pub returns : goal.returns
returns c = keeps_filled
