use Rattle.link_spec.proofs.laws.typed_everywhere.Goals as goal
use Rattle.link_spec.proofs.Statics.{typed_at}

pub returns : goal.returns
returns c = typed_at
