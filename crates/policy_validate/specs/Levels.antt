-- The findings on a set of policies that is checked for a level, and the sets that are accepted at it.
use Rattle.std.specs.Prelude.{◌≡◌, ◌↔◌, ℕ, List, [], ◌∷◌, ◌++◌, Option, flat_map, option_map}
use Rattle.std.specs.List.{AllByRecursion, filter_map}
use Rattle.policy_expressions.specs.Plain.{Plain}
use Rattle.entity_store.specs.declared.request.Request.{Request}
use Rattle.entity_store.specs.Store.{Store}
use Rattle.policy_core.specs.Eval.{eval}
use Rattle.policy_set.specs.Data.{TemplateData}
use Rattle.policy_set.specs.Condition.{condition_of}
use Rattle.policy_set.specs.PolicySet.{PolicySetData, IsPolicySet, AreKeyedOnce, written, links}
use Rattle.schema_core.specs.EnvData.{EnvData, action_in}
use Rattle.schema_core.specs.Faults.{IsSchema}
use Rattle.schema_core.specs.Schema.{SchemaData}
use Rattle.findings.specs.declared.error.ValidationError.{ValidationError}
use Rattle.finding_messages.specs.Findings.{Findings}
use Rattle.typing_spec.specs.Conforms.{RequestConforms, StoreConforms}
use Rattle.typecheck_rules.specs.Check.{checked}
use Rattle.link_spec.specs.Linked.{linked_envs}
use Rattle.level_validate.specs.Cut.{cut}
use Rattle.level_validate.specs.Policies.{PassesAt}
use Rattle.level_validate.specs.Errors.{Condition, dereferences_in, level_errors_in, IsReportedOf}
use Rattle.policy_validate.specs.Accepted.{errors_of_written, errors_of_link, warnings_of, IsAccepted}
use Rattle.policy_validate.specs.Checks.{condition_in}

-- the first list, or the other where it is empty
abbrev pub or_else : {X : Type 0} → List X → List X → List X
or_else [] ys = ys
or_else (x ∷ xs) ys = x ∷ xs

module _ (schema : SchemaData) where
  -- the typed condition in an environment
  abbrev pub condition_at : Plain → EnvData → Option Condition
  condition_at e env = option_map (λ t. (action_in env, t)) (condition_in (checked schema env e))

  -- those of a template, or of a static policy, in its environments
  abbrev pub conditions_of : TemplateData → List Condition
  conditions_of t = filter_map (condition_at (condition_of t)) (linked_envs schema t)

  module _ (n : ℕ) where
    -- its errors on levels
    abbrev pub level_errors_of : TemplateData → List ValidationError
    level_errors_of t = level_errors_in t.id n (conditions_of t)

    -- all its errors: those on levels only where there are no others
    abbrev pub errors_at_level : TemplateData → List ValidationError
    errors_at_level t = or_else (errors_of_written schema t) (level_errors_of t)

    -- the findings on a set, in the order of the ids: on all that is written, and then on all links
    abbrev pub level_findings_of : PolicySetData → Findings
    level_findings_of s = record {
      errors = flat_map errors_at_level (written s) ++ flat_map (errors_of_link schema) (links s);
      warnings = flat_map (warnings_of schema) (written s);
    }

    -- the set is accepted, and each template and static policy passes at the level in each of its
    -- environments
    pub record IsAcceptedAt (s : PolicySetData) : Type 0 where
      pub accepted : IsAccepted schema s
      pub levels : AllByRecursion (PassesAt schema n) (written s)

    -- on the store cut at the level each policy has the outcome that it has on the whole store, where request
    -- and store conform
    abbrev pub CutIsEnough : PolicySetData → Type 0
    CutIsEnough s =
        (q : Request) → RequestConforms schema q → (whole : Store) → StoreConforms schema whole →
        AllByRecursion (λ p. eval p.condition q (cut n q whole) ≡ eval p.condition q whole) s.policies

-- without other errors there is none on levels exactly where the template, or the static policy, passes in
-- each of its environments; each says of a dereference in its typed condition
abbrev pub LevelErrorsOfAreExact : Type 0
LevelErrorsOfAreExact =
    (schema : SchemaData) (n : ℕ) (t : TemplateData) → errors_of_written schema t ≡ [] →
    ((level_errors_of schema n t ≡ []) ↔ PassesAt schema n t)
    × AllByRecursion (IsReportedOf t.id n (flat_map dereferences_in (conditions_of schema t)))
    (level_errors_of schema n t)

-- no error is found exactly where the set is accepted at the level
abbrev pub NoErrorsWhereAcceptedAt : Type 0
NoErrorsWhereAcceptedAt = (schema : SchemaData) (n : ℕ) (s : PolicySetData) →
    ((level_findings_of schema n s).errors ≡ []) ↔ IsAcceptedAt schema n s

-- levels are sound
abbrev pub AcceptedLevelsAreSound : Type 0
AcceptedLevelsAreSound =
    (schema : SchemaData) → IsSchema schema → (n : ℕ) (s : PolicySetData) → IsPolicySet s →
    AreKeyedOnce s.policies → IsAcceptedAt schema n s → CutIsEnough schema n s
