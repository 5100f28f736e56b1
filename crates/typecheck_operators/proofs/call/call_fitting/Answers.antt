use Rattle.std.proofs.Common.{◌≡◌, ◌++◌, ◌∙◌, IfOk, Some, ap, subst}
use Rattle.std.specs.Option.{option_and_then}
use Rattle.policy_expressions.specs.Tree.{trees_of}
use Rattle.typing_spec.specs.Signatures.{call_type}
use Rattle.typecheck_rules.specs.Found.{findings_from}
use Rattle.typecheck_operators.specs.Parts.{call_by_type}
use Rattle.typecheck_operators.specs.Reported.{mark, walked_of, all_of}
use Rattle.typecheck_operators.proofs.PartLaws.{call_by_parts}
use Rattle.typecheck_operators.proofs.call.call_fitting.Goals as goal

pub returns : goal.returns
returns c =
    let own = findings_from c.args.own.items in
    let found = c.in_ok-found.ensures ∙ ap (λ fs. own ++ fs) c.in_ok-rest.ensures.found in
    let xs = trees_of c.args.xs.now.items in
    let of = c.in_ok-of.ensures ∙ ap (option_and_then (call_type (Some c.args.g.function) xs)) c.in_ok-types.ensures in
    subst (λ w. IfOk c.call_ended.result (λ r. walked_of r ≡ w))
    ((λ i. call_by_type c.args.f.now c.args.g.function (mark c.args.loc) (c.are_typed-ok.ensures i) (of i) (trees_of (c.in_ok-rest.ensures.trees i)) (found i))
    ∙ call_by_parts c.args.f.now c.args.g.function (trees_of c.args.xs.now.items) (mark c.args.loc) own (all_of c.args.ws.items))
    c.call_ended.ensures
