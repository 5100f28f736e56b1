use Rattle.std.proofs.Common.{◌≡◌, ◌∙◌, IfOk, subst}
use Rattle.policy_expressions.specs.Tree.{trees_of}
use Rattle.typecheck_operators.specs.Parts.{set_in_parts}
use Rattle.typecheck_operators.specs.Reported.{mark, walked_of, all_of}
use Rattle.typecheck_operators.proofs.PartLaws.{set_by_parts}
use Rattle.typecheck_operators.proofs.set.set_reported.Goals as goal

pub returns : goal.returns
returns c =
    subst (λ w. IfOk c.set_ended.result (λ r. walked_of r ≡ w))
    ((λ i. set_in_parts (mark c.args.loc) (c.are_typed-ok.ensures i) (c.in_ok-types.ensures i) (trees_of (c.in_ok-rest.ensures.trees i)) (c.in_ok-rest.ensures.found i))
    ∙ set_by_parts (mark c.args.loc) (all_of c.args.ws.items))
    c.set_ended.ensures
