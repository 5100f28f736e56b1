use Rattle.std.proofs.Common.{◌≡◌, ◌∙◌, IfOk, subst}
use Rattle.typecheck_operators.specs.Reported.{mark, operand_of, walked_of}
use Rattle.typecheck_walk.specs.Sides.{or_by}
use Rattle.typecheck_walk.proofs.SideLaws.{or_by_own}
use Rattle.typecheck_walk.proofs.or.or_ended.Goals as goal

pub returns-3 : goal.returns-3
returns-3 c =
    let m = mark c.args.loc in
    let sides = c.in-Ok-or_drop-sides.ensures in
    subst (λ x. IfOk c.or_by.result (λ r. walked_of r ≡ x))
    ((λ i. or_by m (c.in-Ok-or_drop.ensures i) (sides.ok i) (sides.left i) (sides.right i) (sides.found i))
    ∙ or_by_own m (operand_of c.args.v) (operand_of c.args.w))
    c.or_by.ensures
