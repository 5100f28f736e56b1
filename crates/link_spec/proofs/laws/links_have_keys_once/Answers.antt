use Rattle.link_spec.proofs.laws.links_have_keys_once.Goals as goal
use Rattle.link_spec.proofs.Statics.{links_once}

pub returns : goal.returns
returns c = links_once
