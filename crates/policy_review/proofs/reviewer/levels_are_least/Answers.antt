use Rattle.policy_set.specs.PolicySet.{written}
use Rattle.policy_review.proofs.Least.{each_least}
use Rattle.policy_review.proofs.reviewer.levels_are_least.Goals as goal

pub returns : goal.returns
returns c = each_least c.least_levels_are_least.ensures c.args.schema.now (written c.args.policies.now)
