use Rattle.link_spec.proofs.laws.links_are_typed.Goals as goal
use Rattle.link_spec.proofs.Links.{links_typed}

pub returns : goal.returns
returns c = links_typed
