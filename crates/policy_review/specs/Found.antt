-- What checks of conditions say of verdicts and levels.
use Rattle.std.specs.Prelude.{◌≡◌, ℕ, Bool, List, Option, Some, None, map, if◌then◌else◌}
use Rattle.std.specs.BTreeMap.{insert_entry}
use Rattle.std.specs.List.{list_all}
use Rattle.std.specs.Option.{option_map_or}
use Rattle.policy_values.specs.Uid.{text_cmp}
use Rattle.policy_values.specs.declared.entity_uid.EntityUID.{EntityUID}
use Rattle.policy_expressions.specs.Plain.{Plain}
use Rattle.schema_core.specs.EnvData.{EnvData, action_in, unlinked_envs}
use Rattle.schema_core.specs.Schema.{SchemaData}
use Rattle.findings.specs.declared.error.ValidationError.{ValidationError}
use Rattle.findings.specs.declared.error.ValidationError.TheVariants.{EntityDerefLevelViolation}
use Rattle.findings.specs.declared.level.EntityDerefViolationKind.{EntityDerefViolationKind}
use Rattle.findings.specs.declared.level.EntityDerefViolationKind.TheVariants.{MaximumLevelExceeded, LiteralDerefTarget}
use Rattle.policy_set.specs.Data.{PolicyData, TemplateData}
use Rattle.policy_set.specs.Condition.{condition_of, written_of}
use Rattle.policy_set.specs.PolicySet.{PolicySetData, is_static}
use Rattle.typing_spec.specs.Typing.{Typed}
use Rattle.typecheck_rules.specs.Check.{checked}
use Rattle.link_spec.specs.Linked.{linked_envs}
use Rattle.level_spec.specs.Levels.{least_level}
use Rattle.policy_typecheck.specs.Policies.{passes}
use Rattle.policy_typecheck.specs.declared.PolicyCheck.{PolicyCheck}
use Rattle.policy_typecheck.specs.declared.PolicyCheck.TheVariants.{Success, Irrelevant, Fail}
use Rattle.policy_typecheck.specs.declared.verdict.Verdict.{Verdict}
use Rattle.policy_typecheck.specs.declared.verdict.Verdict.TheVariants.{Never, May}
use Rattle.policy_validate.specs.Accepted.{IsAccepted}
use Rattle.policy_validate.specs.Checks.{condition_in}
use Rattle.policy_review.specs.Levels.{greatest, levels_of}
use Rattle.policy_review.specs.Matrix.{matrix_of}
use Rattle.policy_review.specs.declared.rows.PolicyLevel.{PolicyLevel}
use Rattle.policy_review.specs.declared.rows.Review.{Review}

-- by a check in code; none where it fails
abbrev pub passed_verdict : PolicyCheck → Option Verdict
passed_verdict (Success t) = Some May
passed_verdict (Irrelevant t) = Some Never
passed_verdict (Fail es) = None

-- the level that an error needs
abbrev pub needed_of : EntityDerefViolationKind → Option ℕ
needed_of (MaximumLevelExceeded allowed actual) = Some actual.level
needed_of LiteralDerefTarget = None

abbrev pub needed_in : ValidationError → Option ℕ
needed_in (EntityDerefLevelViolation e) = needed_of e.violation_kind
needed_in e = Some 0

abbrev pub needed_by : List ValidationError → Option ℕ
needed_by es = greatest (map needed_in es)

-- the least level of what a check leaves of a condition
abbrev pub level_reported : Option EntityUID → Option Typed → Option ℕ
level_reported a o = option_map_or (least_level a) o (Some 0)

-- a level with its id
abbrev pub level_at : List ℕ × Option ℕ → PolicyLevel
level_at e = record { policy_id = e.0; level = e.1 }

module _ (schema : SchemaData) where
  -- of a condition in an environment, and of a template or static policy in its environments
  abbrev pub level_found_in : Plain → EnvData → Option ℕ
  level_found_in e env = level_reported (action_in env) (condition_in (checked schema env e))

  abbrev pub level_found : TemplateData → Option ℕ
  level_found t = greatest (map (level_found_in (condition_of t)) (linked_envs schema t))

  -- put among ascending ones
  abbrev pub with_level : List (List ℕ × Option ℕ) → TemplateData → List (List ℕ × Option ℕ)
  with_level es t = insert_entry text_cmp es t.id (level_found t)

  abbrev pub with_static : List (List ℕ × Option ℕ) → PolicyData → List (List ℕ × Option ℕ)
  with_static es p = if is_static p then with_level es (written_of p) else es

  -- whether the check of a policy's own condition passes in each environment of the schema
  abbrev pub passes_everywhere : PolicyData → Bool
  passes_everywhere p = list_all (λ env. passes (checked schema env p.condition)) (unlinked_envs schema)

  -- what is found of accepted policies
  pub record IsReviewOf (s : PolicySetData) (r : Review) : Type 0 where
    pub accepted : IsAccepted schema s
    pub matrix : r.matrix.items ≡ matrix_of schema s
    pub levels : r.levels.items ≡ levels_of schema s
