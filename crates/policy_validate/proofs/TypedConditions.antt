-- Typing refuses nothing of a condition exactly where the condition is not too deep and has a type in each environment.
use Rattle.std.proofs.Common.{◌≡◌, ◌≤◌, ℕ, Bool, true, false, List, [], ◌∷◌, map, nat_lt, Option, Some, None, IsTrue, IsSomeAnd, refl, sym, ap, ◌∙◌, subst, if◌then◌else◌, arith}
use Rattle.std.proofs.lemmas.Bool.{ltb-false, le-ltb}
use Rattle.std.specs.List.{AllByRecursion, flat_map}
use Rattle.findings.specs.Finding.{Finding}
use Rattle.schema_types.specs.declared.kinds.Primitive.TheVariants.{Bool as BoolType}
use Rattle.schema_types.specs.Ty.{Ty, true_type, false_type, primitive}
use Rattle.schema_core.specs.EnvData.{EnvData}
use Rattle.schema_core.specs.Schema.{SchemaData}
use Rattle.policy_expressions.specs.Tree.{depth_of}
use Rattle.policy_expressions.specs.Plain.{Plain}
use Rattle.typing_spec.specs.Operands.{is_boolean}
use Rattle.typing_spec.specs.Typing.{Typed, Typing, types}
use Rattle.policy_set.specs.Data.{TemplateData}
use Rattle.policy_set.specs.Condition.{condition_of}
use Rattle.typecheck_rules.specs.Check.{Check, check_of, check_by, checked, condition_walked, TooDeep, CheckIsExact, SaysWhy}
use Rattle.typecheck_rules.specs.Walked.{findings_of}
use Rattle.link_spec.specs.Accepted.{IsTyped, IsTypedIn}
use Rattle.link_spec.specs.Linked.{linked_envs}
use Rattle.policy_typecheck.specs.Added.{all_added, same_error}
use Rattle.policy_typecheck.specs.Answer.{errors_of, too_deep}
use Rattle.policy_typecheck.specs.Policies.{refusals}
use Rattle.policy_validate.proofs.Empty.{all_both, all_more, none_grown, none_in_each, each_none}
use Rattle.plain_lemmas.proofs.Lists.{all_map, all_of_map}

module _ (id : List ℕ) where
  boolean_of : (u : Ty) (t : Typed) (fs : List Finding) → SaysWhy (check_of u t fs) → errors_of id (check_of u t fs) ≡ [] → is_boolean u ≡ true
  boolean_of true_type t fs tells none = refl
  boolean_of false_type t fs tells none = refl
  boolean_of (primitive BoolType) t fs tells none = refl
  boolean_of u t [] tells none = absurd tells
  boolean_of u t (f ∷ fs) tells none = absurd (cc none)

  of_boolean : (u : Ty) (t : Typed) (fs : List Finding) → is_boolean u ≡ true → errors_of id (check_of u t fs) ≡ []
  of_boolean true_type t fs h = refl
  of_boolean false_type t fs h = refl
  of_boolean (primitive BoolType) t fs h = refl
  of_boolean u t fs h = absurd (cc h)

  typed_of : (o : Option Typing) (fs : List Finding) → SaysWhy (check_by o fs) → errors_of id (check_by o fs) ≡ [] → IsSomeAnd o (λ x. IsTrue (is_boolean x.type))
  typed_of None [] tells none = absurd tells
  typed_of None (f ∷ fs) tells none = absurd (cc none)
  typed_of (Some x) fs tells none = boolean_of x.type x.tree fs tells none

  of_typed : (o : Option Typing) (fs : List Finding) → IsSomeAnd o (λ x. IsTrue (is_boolean x.type)) → errors_of id (check_by o fs) ≡ []
  of_typed None fs h = absurd h
  of_typed (Some x) fs h = of_boolean x.type x.tree fs h

  module _ (exact : CheckIsExact) (schema : SchemaData) (e : Plain) (flat : nat_lt 200 (depth_of e) ≡ false) where
    check_is : (env : EnvData) → checked schema env e ≡ check_by (types schema env [] e) (findings_of (condition_walked schema env e))
    check_is env = exact schema env e ∙ ap (λ b. if b then TooDeep else check_by (types schema env [] e) (findings_of (condition_walked schema env e))) flat

    pub typed_in : (env : EnvData) → SaysWhy (checked schema env e) → errors_of id (checked schema env e) ≡ [] → IsTyped schema e env
    typed_in env tells none =
        typed_of (types schema env [] e) (findings_of (condition_walked schema env e))
        (subst SaysWhy (check_is env) tells) (subst (λ c. errors_of id c ≡ []) (check_is env) none)

    pub in_typed : (env : EnvData) → IsTyped schema e env → errors_of id (checked schema env e) ≡ []
    in_typed env h = subst (λ c. errors_of id c ≡ []) (sym (check_is env)) (of_typed (types schema env [] e) (findings_of (condition_walked schema env e)) h)

module _ (exact : CheckIsExact) (schema : SchemaData) (t : TemplateData) where
  abbrev condition : Plain
  condition = condition_of t

  abbrev check_at : EnvData → Check
  check_at env = checked schema env condition

  pub is_typed : AllByRecursion (λ env. SaysWhy (check_at env)) (linked_envs schema t) → all_added same_error [] (refusals schema t) ≡ [] → (depth_of condition ≤ 200) × IsTypedIn schema condition (linked_envs schema t)
  is_typed reported none = by (nat_lt 200 (depth_of condition)) refl (none_grown _ (λ x. refl) (refusals schema t) none)
    where
      by : (b : Bool) → nat_lt 200 (depth_of condition) ≡ b → (if b then too_deep t.id ∷ [] else flat_map (errors_of t.id) (map check_at (linked_envs schema t))) ≡ [] → (depth_of condition ≤ 200) × IsTypedIn schema condition (linked_envs schema t)
      by true deep h = absurd (cc h)
      by false flat h = (
        ltb-false 200 (depth_of condition) flat,
        all_both (λ env. SaysWhy (check_at env)) (λ env. errors_of t.id (check_at env) ≡ []) (IsTyped schema condition) (λ env. typed_in t.id exact schema condition flat env) (linked_envs schema t) reported
            (all_of_map check_at (λ c. errors_of t.id c ≡ []) (linked_envs schema t) (none_in_each (errors_of t.id) (map check_at (linked_envs schema t)) h)),
      )

  pub typed_is : depth_of condition ≤ 200 → IsTypedIn schema condition (linked_envs schema t) → all_added same_error [] (refusals schema t) ≡ []
  typed_is depth typed =
      let flat : nat_lt 200 (depth_of condition) ≡ false = le-ltb 200 (depth_of condition) depth in
      ap (all_added same_error [])
      (ap (λ b. if b then too_deep t.id ∷ [] else flat_map (errors_of t.id) (map check_at (linked_envs schema t))) flat
      ∙ each_none (errors_of t.id) (map check_at (linked_envs schema t))
      (all_map check_at (λ c. errors_of t.id c ≡ []) (linked_envs schema t) (all_more (IsTyped schema condition) (λ env. errors_of t.id (check_at env) ≡ []) (λ env. in_typed t.id exact schema condition flat env) (linked_envs schema t) typed)))
