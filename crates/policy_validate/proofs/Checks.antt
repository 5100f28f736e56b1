-- The conditions that checks leave are those that typing gives, where all are accepted.
use Rattle.std.proofs.Common.{◌≡◌, ◌≤◌, ℕ, true, List, [], ◌∷◌, Option, Some, None, option_map, IsTrue, IsSomeAnd, refl, sym, ap, ◌∙◌, subst, if◌then◌else◌}
use Rattle.std.proofs.lemmas.Bool.{le-ltb}
use Rattle.std.specs.List.{AllByRecursion, cons_option}
use Rattle.findings.specs.Finding.{Finding}
use Rattle.schema_types.specs.declared.kinds.Primitive.TheVariants.{Bool as BoolType}
use Rattle.schema_types.specs.Ty.{Ty, true_type, false_type, primitive}
use Rattle.schema_core.specs.EnvData.{EnvData}
use Rattle.schema_core.specs.Schema.{SchemaData}
use Rattle.policy_expressions.specs.Tree.{depth_of}
use Rattle.policy_expressions.specs.Plain.{Plain}
use Rattle.policy_set.specs.Data.{PolicyData}
use Rattle.typing_spec.specs.Operands.{is_boolean}
use Rattle.typing_spec.specs.Typing.{Typed, Typing, types}
use Rattle.typecheck_rules.specs.Check.{Check, Success, Irrelevant, Fail, TooDeep, check_of, check_by, checked, condition_walked, CheckIsExact}
use Rattle.typecheck_rules.specs.Walked.{findings_of}
use Rattle.link_spec.specs.Accepted.{IsTyped}
use Rattle.policy_typecheck.specs.Answer.{Reports}
use Rattle.policy_typecheck.specs.declared.PolicyCheck.{PolicyCheck}
use Rattle.policy_typecheck.specs.declared.PolicyCheck.TheVariants as reported
use Rattle.policy_validate.specs.Typed.{typed_conditions}
use Rattle.policy_validate.specs.Found.{condition_in, condition_reported, found_conditions}

-- a check in code leaves what the check leaves
pub reported_condition : (id : List ℕ) (c : Check) (r : PolicyCheck) → Reports id c r → condition_reported r ≡ condition_in c
reported_condition id (Success t) (reported.Success u) h = ap Some h
reported_condition id (Irrelevant t) (reported.Irrelevant u) h = ap Some h
reported_condition id (Fail fs) (reported.Fail es) h = refl
reported_condition id TooDeep (reported.Fail es) h = refl
reported_condition id c r h = absurd h

of_boolean : (u : Ty) (t : Typed) (fs : List Finding) → is_boolean u ≡ true → condition_in (check_of u t fs) ≡ Some t
of_boolean true_type t fs h = refl
of_boolean false_type t fs h = refl
of_boolean (primitive BoolType) t fs h = refl
of_boolean u t fs h = absurd (cc h)

of_typed : (o : Option Typing) (fs : List Finding) → IsSomeAnd o (λ x. IsTrue (is_boolean x.type)) → condition_in (check_by o fs) ≡ option_map (λ a. a.tree) o
of_typed None fs h = absurd h
of_typed (Some x) fs h = of_boolean x.type x.tree fs h

-- not too deep to be typed, and with a type in the environment
abbrev pub IsReady : SchemaData → EnvData → PolicyData → Type 0
IsReady schema env p = (depth_of p.condition ≤ 200) × IsTyped schema p.condition env

module _ (exact : CheckIsExact) (schema : SchemaData) where
  condition_same : (env : EnvData) (e : Plain) → depth_of e ≤ 200 → IsTyped schema e env → condition_in (checked schema env e) ≡ option_map (λ a. a.tree) (types schema env [] e)
  condition_same env e depth typed =
      let fs = findings_of (condition_walked schema env e) in
      ap condition_in (exact schema env e ∙ ap (λ b. if b then TooDeep else check_by (types schema env [] e) fs) (le-ltb 200 (depth_of e) depth))
      ∙ of_typed (types schema env [] e) fs typed

  pub conditions_same : (env : EnvData) (ps : List PolicyData) → AllByRecursion (IsReady schema env) ps → found_conditions schema env ps ≡ typed_conditions schema env ps
  conditions_same env [] h = refl
  conditions_same env (p ∷ ps) h = λ i. cons_option (condition_same env p.condition h.0.0 h.0.1 i) (conditions_same env ps h.1 i)
