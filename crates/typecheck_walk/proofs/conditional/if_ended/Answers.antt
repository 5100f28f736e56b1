use Rattle.std.proofs.Common.{◌≡◌, ◌∙◌, IfOk, ap, subst}
use Rattle.typecheck_operators.specs.Reported.{mark, operand_of, walked_of}
use Rattle.typecheck_walk.specs.Branches.{all_found, if_by, tested_of}
use Rattle.typecheck_walk.proofs.BranchLaws.{if_by_own}
use Rattle.typecheck_walk.proofs.conditional.if_ended.Goals as goal

pub returns-4 : goal.returns-4
returns-4 c =
    let m = mark c.args.loc in
    let u = tested_of c.args.u in
    let a = operand_of c.args.v in
    let b = operand_of c.args.w in
    let parts = c.in-Ok-or_drop-parts.ensures in
    let found = parts.found ∙ ap (all_found u a b) c.in-Ok-or_drop.ensures in
    subst (λ x. IfOk c.if_by.result (λ r. walked_of r ≡ x))
    ((λ i. if_by m (c.in-Ok-or_drop-own.ensures i) (parts.ok i) (parts.test i) (parts.first i) (parts.second i) (found i))
    ∙ if_by_own m u a b)
    c.if_by.ensures
