use Rattle.std.proofs.Common.{refl}
use Rattle.schema_core.proofs.arrange.arranged_actions.Goals as goal

pub loop-name-init : goal.loop-name-init
loop-name-init c = rw (c.new-list.ensures.items, c.into_iter-name-iterator.ensures.into_iter_gives.0) refl
