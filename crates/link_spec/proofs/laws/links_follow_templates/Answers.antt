use Rattle.link_spec.proofs.laws.links_follow_templates.Goals as goal
use Rattle.link_spec.proofs.Links.{links_follow}

pub returns : goal.returns
returns c = links_follow
