-- Errors on levels are exact.
use Rattle.std.proofs.Common.{◌≡◌, ℕ, true, false, List, [], ◌∷◌, map, nat_lt, Option, Some, None, IsTrue, IfSome, IsSomeAnd, refl, sym, ap, ◌∙◌, subst, if◌then◌else◌}
use Rattle.std.specs.Prelude.{option_map}
use Rattle.std.specs.List.{AllByRecursion, flat_map, filter_map, cons_option}
use Rattle.std.proofs.lemmas.Bool.{le-ltb}
use Rattle.findings.specs.Finding.{Finding}
use Rattle.schema_types.specs.declared.kinds.Primitive.TheVariants.{Bool as BoolType}
use Rattle.schema_types.specs.Ty.{Ty, true_type, false_type, primitive}
use Rattle.schema_core.specs.EnvData.{EnvData, action_in}
use Rattle.schema_core.specs.Schema.{SchemaData}
use Rattle.policy_expressions.specs.Tree.{depth_of}
use Rattle.policy_expressions.specs.Plain.{Plain}
use Rattle.typing_spec.specs.Operands.{is_boolean}
use Rattle.typing_spec.specs.Typing.{Typed, Typing, types}
use Rattle.policy_set.specs.Data.{TemplateData}
use Rattle.policy_set.specs.Condition.{condition_of}
use Rattle.policy_set.specs.PolicySet.{written, links}
use Rattle.typecheck_rules.specs.Check.{Check, check_of, check_by, checked, condition_walked, TooDeep, CheckIsExact}
use Rattle.typecheck_rules.specs.Check as check
use Rattle.typecheck_rules.specs.Walked.{findings_of}
use Rattle.link_spec.specs.Accepted.{IsTyped, IsTypedIn, IsAcceptedTemplate}
use Rattle.link_spec.specs.Laws.{RefusalsAreReported}
use Rattle.link_spec.specs.Linked.{linked_envs}
use Rattle.level_validate.specs.Levels.{passes}
use Rattle.level_validate.specs.Policies as level
use Rattle.level_validate.specs.Policies.{PassesAt}
use Rattle.policy_typecheck.specs.Answer.{Reports}
use Rattle.policy_typecheck.specs.declared.PolicyCheck.{PolicyCheck}
use Rattle.policy_typecheck.specs.declared.PolicyCheck.TheVariants.{Success, Irrelevant, Fail}
use Rattle.level_validate.specs.Errors.{Condition, PassesIn, LevelErrorsAreExact}
use Rattle.policy_validate.specs.Accepted.{errors_of_written, errors_of_link}
use Rattle.policy_validate.specs.Checks.{condition_in}
use Rattle.policy_validate.specs.Laws.{NoErrorsWhereAccepted}
use Rattle.policy_validate.specs.Levels.{or_else, condition_at, conditions_of, level_errors_of, errors_at_level, level_findings_of, IsAcceptedAt, LevelErrorsOfAreExact, NoErrorsWhereAcceptedAt}
use Rattle.policy_validate.specs.Reported.{reported_by}
use Rattle.policy_validate.proofs.Empty.{parts_empty, empty_parts, all_more, all_both, none_in_each, each_none}
use Rattle.policy_validate.proofs.NoErrors.{template_accepted}

-- what is reported of checks is what the definitions say of their environments
pub says_same : (id : List ℕ) (env : EnvData) (c : Check) (p : PolicyCheck) → Reports id c p → reported_by env p ≡ option_map {U = Condition} (λ t. (action_in env, t)) (condition_in c)
says_same id env (check.Success t) (Success u) h = ap (λ v. Some (action_in env, v)) h
says_same id env (check.Irrelevant t) (Irrelevant u) h = ap (λ v. Some (action_in env, v)) h
says_same id env (check.Fail fs) (Fail es) h = refl
says_same id env check.TooDeep (Fail es) h = refl
says_same id env c p h = absurd h

-- a typed condition is that of its typing
tree_of : (u : Ty) (t : Typed) (fs : List Finding) → is_boolean u ≡ true → condition_in (check_of u t fs) ≡ Some t
tree_of true_type t fs h = refl
tree_of false_type t fs h = refl
tree_of (primitive BoolType) t fs h = refl
tree_of u t fs h = absurd (cc h)

condition_by : (env : EnvData) (o : Option Typing) (fs : List Finding) → IsSomeAnd o (λ r. IsTrue (is_boolean r.type)) →
    option_map {U = Condition} (λ t. (action_in env, t)) (condition_in (check_by o fs)) ≡ option_map {U = Condition} (λ r. (action_in env, r.tree)) o
condition_by env None fs h = absurd h
condition_by env (Some r) fs h = ap (option_map {U = Condition} (λ t. (action_in env, t))) (tree_of r.type r.tree fs h)

module _ (exact : CheckIsExact) (schema : SchemaData) (n : ℕ) (x : Plain) (flat : nat_lt 200 (depth_of x) ≡ false) where
  condition_is : (env : EnvData) → IsTyped schema x env → condition_at schema x env ≡ option_map {U = Condition} (λ r. (action_in env, r.tree)) (types schema env [] x)
  condition_is env typed =
      ap (λ c. option_map {U = Condition} (λ t. (action_in env, t)) (condition_in c)) (exact schema env x ∙ ap (λ b. if b then TooDeep else check_by (types schema env [] x) (findings_of (condition_walked schema env x))) flat)
      ∙ condition_by env (types schema env [] x) (findings_of (condition_walked schema env x)) typed

  module _ (env : EnvData) (rest : List Condition) where
    first_passes : (o : Option Typing) (p : Option Condition) → p ≡ option_map {U = Condition} (λ r. (action_in env, r.tree)) o → IsSomeAnd o (λ r. IsTrue (is_boolean r.type)) →
        AllByRecursion (PassesIn n) (cons_option p rest) → IfSome o (λ r. passes (action_in env) n r.tree ≡ true) × AllByRecursion (PassesIn n) rest
    first_passes None p e b h = absurd b
    first_passes (Some r) p e b h = subst (λ z. AllByRecursion (PassesIn n) (cons_option z rest)) e h

    passes_first : (o : Option Typing) (p : Option Condition) → p ≡ option_map {U = Condition} (λ r. (action_in env, r.tree)) o → IsSomeAnd o (λ r. IsTrue (is_boolean r.type)) →
        IfSome o (λ r. passes (action_in env) n r.tree ≡ true) × AllByRecursion (PassesIn n) rest → AllByRecursion (PassesIn n) (cons_option p rest)
    passes_first None p e b h = absurd b
    passes_first (Some r) p e b h = subst (λ z. AllByRecursion (PassesIn n) (cons_option z rest)) (sym e) h

  each_passes : (envs : List EnvData) → IsTypedIn schema x envs → AllByRecursion (PassesIn n) (filter_map (condition_at schema x) envs) → AllByRecursion (level.PassesIn schema n x) envs
  each_passes [] typed h = tt
  each_passes (env ∷ envs) typed h =
      let r = first_passes env (filter_map (condition_at schema x) envs) (types schema env [] x) (condition_at schema x env) (condition_is env typed.0) typed.0 h in
      (r.0, each_passes envs typed.1 r.1)

  passes_each : (envs : List EnvData) → IsTypedIn schema x envs → AllByRecursion (level.PassesIn schema n x) envs → AllByRecursion (PassesIn n) (filter_map (condition_at schema x) envs)
  passes_each [] typed h = tt
  passes_each (env ∷ envs) typed h =
      passes_first env (filter_map (condition_at schema x) envs) (types schema env [] x) (condition_at schema x env) (condition_is env typed.0) typed.0 (h.0, passes_each envs typed.1 h.1)

pub level_errors_exact : CheckIsExact → RefusalsAreReported → LevelErrorsAreExact → LevelErrorsOfAreExact
level_errors_exact exact reported levels schema n t none =
    let accepted : IsAcceptedTemplate schema t = template_accepted schema exact reported t none in
    let flat : nat_lt 200 (depth_of (condition_of t)) ≡ false = le-ltb 200 (depth_of (condition_of t)) accepted.depth in
    let r = levels t.id n (conditions_of schema t) in (
      (
        (λ h. each_passes exact schema n (condition_of t) flat (linked_envs schema t) accepted.typed (r.0.0 h)),
        (λ h. r.0.1 (passes_each exact schema n (condition_of t) flat (linked_envs schema t) accepted.typed h)),
      ),
      r.1,
    )

none_else : {X : Type 0} (xs ys : List X) → or_else xs ys ≡ [] → (xs ≡ []) × (ys ≡ [])
none_else [] ys h = (refl, h)
none_else (x ∷ xs) ys h = absurd (cc h)

-- neither errors nor errors on levels
abbrev IsClean : SchemaData → ℕ → TemplateData → Type 0
IsClean schema n t = (errors_of_written schema t ≡ []) × (level_errors_of schema n t ≡ [])

pub no_errors_at : NoErrorsWhereAccepted → LevelErrorsOfAreExact → NoErrorsWhereAcceptedAt
no_errors_at none_where exact schema n s = (accepted, none)
  where
    accepted : (level_findings_of schema n s).errors ≡ [] → IsAcceptedAt schema n s
    accepted h =
        let e = parts_empty (flat_map (errors_at_level schema n) (written s)) (flat_map (errors_of_link schema) (links s)) h in
        let clean = all_more (λ t. errors_at_level schema n t ≡ []) (IsClean schema n) (λ t k. none_else (errors_of_written schema t) (level_errors_of schema n t) k) (written s) (none_in_each (errors_at_level schema n) (written s) e.0) in
        record {
          accepted = (none_where schema s).0
              (empty_parts (flat_map (errors_of_written schema) (written s)) (flat_map (errors_of_link schema) (links s))
              (each_none (errors_of_written schema) (written s) (all_more (IsClean schema n) (λ t. errors_of_written schema t ≡ []) (λ t c. c.0) (written s) clean)) e.1);
          levels = all_more (IsClean schema n) (PassesAt schema n) (λ t c. (exact schema n t c.0).0.0 c.1) (written s) clean;
        }

    none : IsAcceptedAt schema n s → (level_findings_of schema n s).errors ≡ []
    none a =
        let e = parts_empty (flat_map (errors_of_written schema) (written s)) (flat_map (errors_of_link schema) (links s)) ((none_where schema s).1 a.accepted) in
        empty_parts (flat_map (errors_at_level schema n) (written s)) (flat_map (errors_of_link schema) (links s))
        (each_none (errors_at_level schema n) (written s)
        (all_both (λ t. errors_of_written schema t ≡ []) (PassesAt schema n) (λ t. errors_at_level schema n t ≡ [])
        (λ t k p. ap (λ es. or_else es (level_errors_of schema n t)) k ∙ (exact schema n t k).0.1 p) (written s) (none_in_each (errors_of_written schema) (written s) e.0) a.levels))
        e.1
