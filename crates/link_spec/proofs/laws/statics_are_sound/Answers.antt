use Rattle.link_spec.proofs.laws.statics_are_sound.Goals as goal
use Rattle.link_spec.proofs.Statics.{statics_sound}

pub returns : goal.returns
returns c = statics_sound c.statics_are_typed.ensures c.typed_are_sound.ensures
