use Rattle.std.proofs.Common.{◌≡◌, true, None, subst}
use Rattle.conformance.specs.RequestRules.{first_request_fault}
use Rattle.principal_listing.proofs.checks.checked_request.Goals as goal

pub returns-in-Ok-clause-rules : goal.returns-in-Ok-clause-rules
returns-in-Ok-clause-rules c = subst (λ q. first_request_fault c.args.schema.now (λ _. true) q ≡ None) c.in_ok-asked.ensures c.in-Ok.ensures
