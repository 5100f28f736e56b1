use Rattle.policy_compare.proofs.Compared.{at_most, at_least}
use Rattle.policy_compare.proofs.laws.comparison_holds.Goals as goal

pub returns : goal.returns
returns c schema env before after old new bs as' = (
  at_most c.shape_decides.ensures schema env before after old new bs as',
  at_least c.shape_decides.ensures schema env before after old new bs as',
)
