use Rattle.principal_listing.proofs.Refusals.{policies_refused}
use Rattle.principal_listing.proofs.checks.checked.Goals as goal

pub returns-in-Err-check_policies-clause-refused : goal.returns-in-Err-check_policies-clause-refused
returns-in-Err-check_policies-clause-refused c =
    policies_refused c.args.schema.now c.args.policies.now c.args.request.now c.args.entities.now
    (c.is_whole_but.ensures.0 c.if-not-is_whole_but.false) c.in_ok-asked.ensures.rules
    ((c.store_rules_are_exact.ensures c.args.schema.now c.action_ids-actions.ensures.schema c.args.entities.now).0 c.in_default.ensures)
    c.in-Err-check_policies.error c.in-Err-check_policies.ensures.refused
