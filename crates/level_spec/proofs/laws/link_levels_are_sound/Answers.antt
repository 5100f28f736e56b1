use Rattle.level_spec.proofs.Policing.{link_levels}
use Rattle.level_spec.proofs.laws.link_levels_are_sound.Goals as goal

pub returns : goal.returns
returns c = link_levels c.levels_are_sound.ensures c.links_follow_templates.ensures c.links_are_written_out.ensures c.links_have_keys_once.ensures c.filled_keeps.ensures
