use Rattle.std.proofs.Common.{◌≡◌, ◌++◌, ◌&&◌, None, IfOk, subst}
use Rattle.policy_expressions.specs.Tree.{ite}
use Rattle.typecheck_rules.specs.Walked.{ended, lends}
use Rattle.typecheck_rules.specs.Operators.{branches_found, if_typing_of}
use Rattle.typecheck_operators.specs.Reported.{mark, walked_of}
use Rattle.typecheck_walk.proofs.conditional.if_parts.Goals as goal

pub returns-4 : goal.returns-4
returns-4 c =
    let m = mark c.args.loc in
    let u = c.in-Ok-or_drop.ensures in
    let v = c.in-Ok-or_drop-v.ensures in
    let w = c.in-Ok-or_drop-w.ensures in
    subst (λ x. IfOk c.if_ended.result (λ r. walked_of r ≡ x))
    (λ i. ended (u.ok i && (v.ok i && w.ok i)) (if_typing_of m (u.given i) (v.given i) (w.given i))
    (ite (u.tree i) (v.tree i) (w.tree i) (lends None m))
    (u.found i ++ (v.found i ++ (w.found i ++ branches_found m (u.of i) (v.of i) (w.of i)))))
    c.if_ended.ensures
