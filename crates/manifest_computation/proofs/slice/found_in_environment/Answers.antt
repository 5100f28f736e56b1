use Rattle.std.proofs.Common.{ap, ◌∙◌, length}
use Rattle.schema_core.specs.RequestEnvs.{env_data_of}
use Rattle.manifest_computation.proofs.Typed.{all_typed_in, each_typed}
use Rattle.manifest_computation.proofs.slice.found_in_environment.Goals as goal

pub returns-clause-same : goal.returns-clause-same
returns-clause-same c =
    let schema = c.args.schema.now in
    let s = c.args.policies.now in
    let env = env_data_of c.args.env.now in
    let typed = c.accepted_are_typed.ensures schema c.action_ids-actions.ensures.schema s c.is_policy_set.ensures c.requires.accepted in
    c.found_are_typed.ensures schema s c.is_policy_set.ensures c.requires.accepted env
    (all_typed_in c.typed_everywhere.ensures schema c.args.request.now env c.requires.conforms c.requires.environment s.policies typed)

pub returns-clause-left : goal.returns-clause-left
returns-clause-left c =
    let schema = c.args.schema.now in
    let s = c.args.policies.now in
    let env = env_data_of c.args.env.now in
    let typed = c.accepted_are_typed.ensures schema c.action_ids-actions.ensures.schema s c.is_policy_set.ensures c.requires.accepted in
    let here = all_typed_in c.typed_everywhere.ensures schema c.args.request.now env c.requires.conforms c.requires.environment s.policies typed in
    ap length (c.found_are_typed.ensures schema s c.is_policy_set.ensures c.requires.accepted env here) ∙ each_typed schema env s.policies here
