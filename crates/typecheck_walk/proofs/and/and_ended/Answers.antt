use Rattle.std.proofs.Common.{◌≡◌, ◌∙◌, IfOk, subst}
use Rattle.typecheck_operators.specs.Reported.{mark, operand_of, walked_of}
use Rattle.typecheck_walk.specs.Sides.{and_by}
use Rattle.typecheck_walk.proofs.SideLaws.{and_by_own}
use Rattle.typecheck_walk.proofs.and.and_ended.Goals as goal

pub returns-3 : goal.returns-3
returns-3 c =
    let m = mark c.args.loc in
    let sides = c.in-Ok-or_drop-sides.ensures in
    subst (λ x. IfOk c.and_by.result (λ r. walked_of r ≡ x))
    ((λ i. and_by m (c.in-Ok-or_drop.ensures i) (sides.ok i) (sides.left i) (sides.right i) (sides.found i))
    ∙ and_by_own m (operand_of c.args.v) (operand_of c.args.w))
    c.and_by.ensures
