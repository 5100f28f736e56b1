use Rattle.reads_spec.proofs.Reaching.{reached_parts}
use Rattle.reads_spec.proofs.conditions.reached_parts_conform.Goals as goal

pub returns : goal.returns
returns c = reached_parts
