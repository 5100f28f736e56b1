use Rattle.link_spec.proofs.laws.slots_are_not_read.Goals as goal
use Rattle.link_spec.proofs.Slots.{same_types}

pub returns : goal.returns
returns c = same_types
