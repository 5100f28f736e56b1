use Rattle.std.proofs.Common.{ap, ◌∙◌}
use Rattle.policy_typecheck.specs.Added.{all_added, same_error}
use Rattle.policy_typecheck.specs.Policies.{refusals}
use Rattle.policy_typecheck.proofs.Same.{error_laws}
use Rattle.policy_typecheck.proofs.Lists.{once_is_enough}
use Rattle.policy_typecheck.proofs.typechecker.Typechecker.typecheck_policy.Goals as goal

pub returns-clause-errors : goal.returns-clause-errors
returns-clause-errors c =
    let reported = refusals c.args.self.now c.args.t.now in
    let found = c.in_ok-summary.ensures.errors ∙ ap (λ ks. all_added same_error ks reported) c.new-found.ensures.empty in
    c.in_ok-add_found.ensures.errors ∙ ap (all_added same_error c.args.errors.now.items) found ∙ once_is_enough same_error error_laws c.args.errors.now.items reported
