use Rattle.policy_review.proofs.Never.{never_never_true}
use Rattle.policy_review.proofs.laws.never_is_never_true.Goals as goal

pub returns : goal.returns
returns c = never_never_true c.accepted_are_sound.ensures c.environments_are_of_types.ensures
