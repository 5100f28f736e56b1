-- What the check of a condition leaves is the condition, typed.
use Rattle.std.proofs.Common.{◌≡◌, ℕ, Bool, true, false, List, [], Option, Some, None, IsSomeAnd, IsTrue, refl, sym, ap, ◌∙◌, nat_lt, if◌then◌else◌}
use Rattle.plain_lemmas.proofs.Options.{some_injective}
use Rattle.findings.specs.Finding.{Finding}
use Rattle.schema_types.specs.declared.kinds.Primitive.TheVariants.{Bool as BoolType}
use Rattle.schema_types.specs.Ty.{Ty, true_type, false_type, primitive}
use Rattle.schema_core.specs.EnvData.{EnvData}
use Rattle.schema_core.specs.Schema.{SchemaData}
use Rattle.policy_expressions.specs.Tree.{depth_of}
use Rattle.policy_expressions.specs.Plain.{Plain}
use Rattle.typing_spec.specs.Operands.{is_boolean}
use Rattle.typing_spec.specs.Typing.{Typed, Typing, types}
use Rattle.typecheck_rules.specs.Check.{Check, Success, Irrelevant, Fail, TooDeep, check_of, check_by, checked, condition_walked, CheckIsExact}
use Rattle.typecheck_rules.specs.Walked.{findings_of}
use Rattle.typecheck_walk.specs.Answer.{Reports}
use Rattle.typecheck_walk.specs.declared.policy_check.PolicyCheck.{PolicyCheck}
use Rattle.typecheck_walk.specs.declared.policy_check.PolicyCheck.TheVariants as reported
use Rattle.policy_risks.specs.Typed.{IsTypedAs}

-- what a check leaves, by the definitions and in code
abbrev left_in : Check → Option Typed
left_in (Success t) = Some t
left_in (Irrelevant t) = Some t
left_in c = None

abbrev pub left_by : PolicyCheck → Option Typed
left_by (reported.Success t) = Some t
left_by (reported.Irrelevant t) = Some t
left_by (reported.Fail es) = None

left_same : (id : List ℕ) (c : Check) (r : PolicyCheck) → Reports id c r → left_in c ≡ left_by r
left_same id (Success t) (reported.Success u) h = ap Some (sym h)
left_same id (Irrelevant t) (reported.Irrelevant u) h = ap Some (sym h)
left_same id (Fail fs) (reported.Fail es) h = refl
left_same id TooDeep (reported.Fail es) h = refl
left_same id c r h = absurd h

by_type : (u : Ty) (t : Typed) (fs : List Finding) (v : Typed) → left_in (check_of u t fs) ≡ Some v → IsTrue (is_boolean u) × (t ≡ v)
by_type true_type t fs v h = (refl, some_injective h)
by_type false_type t fs v h = (refl, some_injective h)
by_type (primitive BoolType) t fs v h = (refl, some_injective h)
by_type u t fs v h = absurd (cc h)

by_typing : (o : Option Typing) (fs : List Finding) (v : Typed) → left_in (check_by o fs) ≡ Some v → IsSomeAnd o (λ x. IsTrue (is_boolean x.type) × (x.tree ≡ v))
by_typing None fs v h = absurd (cc h)
by_typing (Some x) fs v h = by_type x.type x.tree fs v h

pub typed_as : CheckIsExact → (schema : SchemaData) (env : EnvData) (e : Plain) (id : List ℕ) (r : PolicyCheck) → Reports id (checked schema env e) r →
    (v : Typed) → left_by r ≡ Some v → IsTypedAs schema env e v
typed_as exact schema env e id r tells v h = by (nat_lt 200 (depth_of e)) (ap left_in (sym (exact schema env e)) ∙ left_same id (checked schema env e) r tells ∙ h)
  where
    fs : List Finding
    fs = findings_of (condition_walked schema env e)

    by : (b : Bool) → left_in (if b then TooDeep else check_by (types schema env [] e) fs) ≡ Some v → IsTypedAs schema env e v
    by true k = absurd (cc k)
    by false k = by_typing (types schema env [] e) fs v k
