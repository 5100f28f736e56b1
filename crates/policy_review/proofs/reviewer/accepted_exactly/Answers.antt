use Rattle.schema_core.specs.EnvData.{unlinked_envs}
use Rattle.policy_review.proofs.Checks.{all_left_passed, all_passed_left}
use Rattle.policy_review.proofs.reviewer.accepted_exactly.Goals as goal

pub returns : goal.returns
returns c =
    let schema = c.args.schema.now in
    let s = c.args.policies.now in
    let exact = c.accepted_by_rules.ensures schema c.action_ids-actions.ensures.schema s c.is_policy_set.ensures in (
      (λ h. exact.0 (h.0, all_passed_left schema s.policies (unlinked_envs schema) h.1)),
      (λ accepted. ((exact.1 accepted).0, all_left_passed schema s.policies (unlinked_envs schema) (exact.1 accepted).1)),
    )
