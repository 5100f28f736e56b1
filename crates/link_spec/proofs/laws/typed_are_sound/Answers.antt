use Rattle.link_spec.proofs.laws.typed_are_sound.Goals as goal
use Rattle.link_spec.proofs.Statics.{typed_sound}

pub returns : goal.returns
returns c = typed_sound c.conditions_are_sound.ensures
