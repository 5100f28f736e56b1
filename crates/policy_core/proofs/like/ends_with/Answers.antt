use Rattle.std.proofs.Common.{◌∙◌}
use Rattle.policy_core.proofs.LikeSteps.{ends_with_piece}
use Rattle.policy_core.proofs.like.ends_with.Goals as goal

pub returns : goal.returns
returns c = c.ends_with.ensures.value ∙ ends_with_piece c.args.piece.now c.args.text.now
