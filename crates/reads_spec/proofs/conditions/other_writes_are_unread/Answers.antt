use Rattle.reads_spec.proofs.Writing.{unread}
use Rattle.reads_spec.proofs.conditions.other_writes_are_unread.Goals as goal

pub returns : goal.returns
returns c = unread
