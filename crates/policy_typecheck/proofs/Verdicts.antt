-- The verdict on a policy, by the check of its condition.
use Rattle.std.proofs.Common.{◌≡◌, ◌≤◌, ℕ, List, [], Option, Some, None, refl, ap, ◌∙◌, if◌then◌else◌}
use Rattle.std.proofs.lemmas.Bool.{le-ltb}
use Rattle.std.specs.Option.{option_map_or}
use Rattle.findings.specs.Finding.{Finding}
use Rattle.schema_types.specs.declared.kinds.Primitive.TheVariants.{Bool as BoolType}
use Rattle.schema_types.specs.Ty.{Ty, true_type, false_type, primitive}
use Rattle.schema_core.specs.EnvData.{EnvData}
use Rattle.schema_core.specs.Schema.{SchemaData}
use Rattle.policy_expressions.specs.Plain.{Plain}
use Rattle.policy_expressions.specs.Tree.{depth_of}
use Rattle.typing_spec.specs.Typing.{Typed, Typing, types}
use Rattle.typecheck_rules.specs.Check.{Check, Success, Irrelevant, Fail, TooDeep, check_of, check_by, checked, condition_walked, CheckIsExact}
use Rattle.typecheck_rules.specs.Walked.{findings_of}
use Rattle.typecheck_walk.specs.Answer.{Reports}
use Rattle.typecheck_walk.specs.declared.policy_check.PolicyCheck.{PolicyCheck}
use Rattle.typecheck_walk.specs.declared.policy_check.PolicyCheck.TheVariants as code
use Rattle.policy_typecheck.specs.Checks.{verdict_reported}
use Rattle.policy_typecheck.specs.Verdict.{verdict_by, verdict_of}
use Rattle.policy_typecheck.specs.declared.verdict.Verdict.{Verdict}
use Rattle.policy_typecheck.specs.declared.verdict.Verdict.TheVariants.{Never, May}

abbrev verdict_on : Check → Verdict
verdict_on (Irrelevant t) = Never
verdict_on c = May

as_checked : (id : List ℕ) (c : Check) (r : PolicyCheck) → Reports id c r → verdict_reported r ≡ verdict_on c
as_checked id (Success t) (code.Success u) h = refl
as_checked id (Irrelevant t) (code.Irrelevant u) h = refl
as_checked id (Fail fs) (code.Fail es) h = refl
as_checked id TooDeep (code.Fail es) h = refl
as_checked id c r h = absurd h

by_type : (u : Ty) (t : Typed) (fs : List Finding) → verdict_on (check_of u t fs) ≡ verdict_by u
by_type true_type t fs = refl
by_type false_type t fs = refl
by_type (primitive BoolType) t fs = refl
by_type u t fs = refl

by_typing : (o : Option Typing) (fs : List Finding) → verdict_on (check_by o fs) ≡ option_map_or (λ x. verdict_by x.type) o May
by_typing None fs = refl
by_typing (Some x) fs = by_type x.type x.tree fs

-- what is no deeper than 200
pub reported_verdict : CheckIsExact → (schema : SchemaData) (env : EnvData) (e : Plain) → depth_of e ≤ 200 →
    (id : List ℕ) (r : PolicyCheck) → Reports id (checked schema env e) r → verdict_reported r ≡ verdict_of schema e env
reported_verdict exact schema env e depth id r reported =
    let fs = findings_of (condition_walked schema env e) in
    as_checked id (checked schema env e) r reported ∙
    ap verdict_on (exact schema env e ∙ ap (λ b. if b then TooDeep else check_by (types schema env [] e) fs) (le-ltb 200 (depth_of e) depth)) ∙
    by_typing (types schema env [] e) fs
