use Rattle.std.proofs.Common.{◌≡◌, [], ◌∷◌, ap, ◌∙◌, IfOk, subst}
use Rattle.std.specs.Prelude.{option_to_list}
use Rattle.access_tries.specs.Paths.{IsLeast}
use Rattle.schema_core.specs.RequestEnvs.{env_data_of}
use Rattle.reads_spec.specs.Reads.{declared_demands, declared_reads}
use Rattle.typecheck_rules.specs.Check.{checked}
use Rattle.policy_validate.specs.Found.{condition_in, found_conditions}
use Rattle.policy_validate.proofs.Checks.{reported_condition}
use Rattle.live_manifest.proofs.Walking.{listed}
use Rattle.live_manifest.proofs.entry.own_trie.Goals as goal

pub returns : goal.returns
returns c =
    let schema = c.args.schema.now in
    let env = env_data_of c.args.env.now in
    let p = c.args.policy.now in
    let reported = reported_condition p.id (checked c.args.typechecker.now env p.condition) c.in_ok-check.check c.in_ok-check.ensures ∙ ap (λ s. condition_in (checked s env p.condition)) c.requires in
    let is : c.as_slice.result.now ≡ found_conditions schema env (p ∷ []) = c.as_slice.ensures.value ∙ c.in_ok-conditions.ensures ∙ ap option_to_list reported ∙ listed (condition_in (checked schema env p.condition)) in
    subst (λ ts. IfOk c.conditions_trie.result (IsLeast (declared_reads schema env ts) (declared_demands schema env ts))) is c.conditions_trie.ensures
