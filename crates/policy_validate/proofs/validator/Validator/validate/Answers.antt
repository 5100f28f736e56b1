use Rattle.std.proofs.Common.{◌≡◌, [], IfOk, subst}
use Rattle.std.specs.List.{AllByRecursion}
use Rattle.schema_core.specs.EnvData.{unlinked_envs}
use Rattle.schema_core.specs.Schema.{SchemaData}
use Rattle.link_spec.specs.Accepted.{IsTypedIn}
use Rattle.policy_validate.proofs.validator.Validator.validate.Goals as goal

pub returns-clause-typed : goal.returns-clause-typed
returns-clause-typed c =
    let seen : c.self.inside.schema.now ≡ c.args.self.now = cc (c.self.view_is) in
    subst (λ (schema : SchemaData). IfOk c.checked.result (λ found. found.errors ≡ [] → AllByRecursion (λ p. IsTypedIn schema p.condition (unlinked_envs schema)) c.args.policies.now.policies)) seen c.checked.ensures.typed
