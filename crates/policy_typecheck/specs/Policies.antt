-- What is reported of the condition of a policy in its environments.
use Rattle.std.specs.Prelude.{ℕ, Bool, true, false, not, ◌&&◌, nat_lt, List, [], ◌∷◌, None, map, if◌then◌else◌}
use Rattle.std.specs.List.{flat_map, list_all}
use Rattle.schema_core.specs.Schema.{SchemaData}
use Rattle.policy_expressions.specs.Tree.{depth_of}
use Rattle.policy_set.specs.Data.{TemplateData}
use Rattle.policy_set.specs.Condition.{condition_of}
use Rattle.link_spec.specs.Linked.{linked_envs}
use Rattle.findings.specs.declared.error.ValidationError.{ValidationError}
use Rattle.findings.specs.declared.error.ValidationWarning.{ValidationWarning}
use Rattle.findings.specs.declared.error.ValidationWarning.TheVariants as warning
use Rattle.typecheck_rules.specs.Check.{Check, Success, Irrelevant, checked}
use Rattle.policy_typecheck.specs.Added.{added, same_warning}
use Rattle.typecheck_walk.specs.Answer.{errors_of, too_deep}

-- whether a check passes, and whether it finds the condition false
abbrev pub passes : Check → Bool
passes (Success t) = true
passes (Irrelevant t) = true
passes c = false

abbrev pub is_irrelevant : Check → Bool
is_irrelevant (Irrelevant t) = true
is_irrelevant c = false

-- that the policy's condition is false on each request
abbrev pub impossible : List ℕ → ValidationWarning
impossible id = warning.ImpossiblePolicy (record { source_loc = None; policy_id = id })

module _ (schema : SchemaData) (t : TemplateData) where
  abbrev pub is_too_deep : Bool
  is_too_deep = nat_lt 200 (depth_of (condition_of t))

  -- the checks in the environments
  abbrev pub checks_of : List Check
  checks_of = map (λ env. checked schema env (condition_of t)) (linked_envs schema t)

  -- their errors, one after another; of a condition that is too deep that alone
  abbrev pub refusals : List ValidationError
  refusals = if is_too_deep then too_deep t.id ∷ [] else flat_map (errors_of t.id) checks_of

  -- accepted: not too deep, and each check passes
  abbrev pub is_accepted : Bool
  is_accepted = not is_too_deep && list_all passes checks_of

  -- false in each environment, or there is none
  abbrev pub is_impossible : Bool
  is_impossible = not is_too_deep && list_all is_irrelevant checks_of

  -- the warning stands behind those before, once
  abbrev pub warned : List ValidationWarning → List ValidationWarning
  warned before = if is_impossible then added same_warning before (impossible t.id) else before
