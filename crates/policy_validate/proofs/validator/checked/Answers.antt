use Rattle.std.proofs.Common.{◌≡◌, [], Result, Ok, Err, IfOk, sym, ap, ◌∙◌}
use Rattle.std.specs.List.{AllByRecursion}
use Rattle.finding_messages.specs.Findings.{Findings}
use Rattle.schema_core.specs.EnvData.{unlinked_envs}
use Rattle.link_spec.specs.Accepted.{IsTypedIn}
use Rattle.policy_validate.specs.Accepted.{findings_of}
use Rattle.policy_validate.proofs.validator.checked.Goals as goal

more : {A E : Type 0} (P Q : A → Type 0) (r : Result A E) → ((x : A) → P x → Q x) → IfOk r P → IfOk r Q
more P Q (Ok x) f h = f x h
more P Q (Err e) f h = h

pub returns-clause-typed : goal.returns-clause-typed
returns-clause-typed c =
    let schema = c.args.schema.now in
    let policies = c.args.policies.now in
    more (λ found. found ≡ findings_of schema policies) (λ found. found.errors ≡ [] → AllByRecursion (λ p. IsTypedIn schema p.condition (unlinked_envs schema)) policies.policies) c.findings_on.result
    (λ found is none. c.typed_where_accepted.ensures (sym (ap (λ (f : Findings). f.errors) is) ∙ none)) c.findings_on.ensures
