use Rattle.std.proofs.Common.{[], sym, ◌∙◌, subst}
use Rattle.std.specs.Option.{option_copied}
use Rattle.policy_expressions.specs.Tree.{depth_of}
use Rattle.level_spec.specs.Levels.{is_reached, greater, level}
use Rattle.level_validate.specs.Fields.{fields_in}
use Rattle.level_validate.proofs.Branches.{branches}
use Rattle.level_validate.proofs.Depths.{IsBelow, level_below}
use Rattle.level_validate.proofs.walk.+walk.Goals as goal

pub target_attr-one_more-requires : goal.target_attr-one_more-requires
target_attr-one_more-requires t c =
    subst (λ o. IsBelow o (depth_of c.args.x.now)) (sym c.in_ok-level.ensures.level) (level_below (option_copied c.args.at.now.action) c.args.x.now [])

pub target_binary-one_more-requires : goal.target_binary-one_more-requires
target_binary-one_more-requires t c =
    subst (λ o. IsBelow o (depth_of c.args.x.now)) (sym c.in_ok-level-in-GetTag.ensures.level) (level_below (option_copied c.args.at.now.action) c.args.x.now [])

pub target_if-returns-clause-level : goal.target_if-returns-clause-level
target_if-returns-clause-level t c =
    let action = option_copied c.args.at.now.action in
    let fs = fields_in c.args.pending.now in
    c.greater.ensures ∙ (λ i. greater (c.in_ok-first.ensures.level i) (c.in_ok-second.ensures.level i))
    ∙ branches (is_reached c.args.y.now) (is_reached c.args.z.now) (level action c.args.y.now fs) (level action c.args.z.now fs)
