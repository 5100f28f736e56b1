use Rattle.policy_review.proofs.Impossible.{impossible_never_true}
use Rattle.policy_review.proofs.laws.impossible_is_never_true.Goals as goal

pub returns : goal.returns
returns c = impossible_never_true c.never_is_never_true.ensures c.statics_are_unlinked.ensures c.check_is_exact.ensures c.environments_are_there.ensures
