use Rattle.std.proofs.Common.{◌≡◌, ◌∙◌, IfOk, map, subst}
use Rattle.policy_expressions.specs.Tree.{named_of}
use Rattle.typecheck_operators.specs.Parts.{record_in_parts}
use Rattle.typecheck_operators.specs.Reported.{mark, walked_of, field_of}
use Rattle.typecheck_operators.proofs.PartLaws.{record_by_parts}
use Rattle.typecheck_operators.proofs.record.record_reported.Goals as goal

pub returns : goal.returns
returns c =
    subst (λ w. IfOk c.record_ended.result (λ r. walked_of r ≡ w))
    ((λ i. record_in_parts (mark c.args.loc) (c.are_fields_typed-ok.ensures i) (c.in_ok-types.ensures i) (named_of (c.in_ok-rest.ensures.trees i)) (c.in_ok-rest.ensures.found i))
    ∙ record_by_parts (mark c.args.loc) (map field_of c.args.fs.entries))
    c.record_ended.ensures
