use Rattle.std.proofs.Common.{◌∙◌}
use Rattle.policy_values.proofs.MapSteps.{insert_entry-next}
use Rattle.policy_values.proofs.map.push_entry.Goals as goal

pub returns-clause-added : goal.returns-clause-added
returns-clause-added g c = c.in_ok-insert.ensures.entries ∙ insert_entry-next c.args.map.now.entries c.args.key c.args.value c.requires
