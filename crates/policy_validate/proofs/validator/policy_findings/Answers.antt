use Rattle.std.proofs.Common.{◌≡◌, sym, subst, ◌∙◌}
use Rattle.std.specs.Prelude.{IfOk, is_some, if◌then◌else◌}
use Rattle.plain_lemmas.proofs.Booleans.{false_of_not}
use Rattle.policy_set.specs.Condition.{written_of}
use Rattle.policy_validate.specs.Entries.{findings_of_link, findings_of_written}
use Rattle.policy_validate.proofs.validator.policy_findings.Goals as goal

pub returns-then-is_static-clause-found : goal.returns-then-is_static-clause-found
returns-then-is_static-clause-found g c =
    let s = c.args.schema.now in
    let p = c.args.policy.now in
    subst (λ b. IfOk c.written_findings.result (λ found. found ≡ (if b then findings_of_link s p else findings_of_written s (written_of p))))
    (sym (false_of_not (is_some p.link) (sym c.is_static.ensures ∙ c.if-is_static.true)))
    (subst (λ t. IfOk c.written_findings.result (λ found. found ≡ findings_of_written s t)) c.written.ensures c.written_findings.ensures.found)
