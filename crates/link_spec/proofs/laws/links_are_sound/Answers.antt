use Rattle.link_spec.proofs.laws.links_are_sound.Goals as goal
use Rattle.link_spec.proofs.Statics.{links_sound}

pub returns : goal.returns
returns c = links_sound c.links_are_typed.ensures c.links_are_written_out.ensures c.links_have_keys_once.ensures c.typed_are_sound.ensures
