use Rattle.link_spec.proofs.laws.links_are_written_out.Goals as goal
use Rattle.link_spec.proofs.Statics.{written_out}

pub returns : goal.returns
returns c = written_out
