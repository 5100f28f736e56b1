use Rattle.std.proofs.Common.{[], sym, ◌∙◌, subst}
use Rattle.std.specs.Option.{option_copied}
use Rattle.policy_expressions.specs.Tree.{depth_of}
use Rattle.level_validate.proofs.Depths.{IsBelow, level_below}
use Rattle.level_validate.proofs.walk.add_own.Goals as goal

pub one_more-requires : goal.one_more-requires
one_more-requires c = subst (λ o. IsBelow o (depth_of c.args.x.now)) (sym c.requires ∙ c.in-Some.is) (level_below (option_copied c.args.at.now.action) c.args.x.now [])
