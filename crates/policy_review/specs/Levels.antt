-- The least levels at which policies pass.
use Rattle.std.specs.Prelude.{◌<◌, ℕ, List, [], ◌∷◌, Option, Some, map, MatchOption}
use Rattle.std.specs.Option.{option_map_or}
use Rattle.schema_core.specs.EnvData.{EnvData, action_in}
use Rattle.schema_core.specs.Schema.{SchemaData}
use Rattle.policy_expressions.specs.Plain.{Plain}
use Rattle.typing_spec.specs.Typing.{types}
use Rattle.policy_set.specs.Data.{TemplateData}
use Rattle.policy_set.specs.Condition.{condition_of}
use Rattle.policy_set.specs.PolicySet.{PolicySetData, written}
use Rattle.link_spec.specs.Linked.{linked_envs}
use Rattle.level_spec.specs.Levels.{greater, least_level}
use Rattle.level_spec.specs.Policies.{PassesAt}
use Rattle.policy_review.specs.declared.rows.PolicyLevel.{PolicyLevel}

-- the greatest of levels, where all are there
abbrev pub greatest : List (Option ℕ) → Option ℕ
greatest [] = Some 0
greatest (o ∷ os) = greater o (greatest os)

module _ (schema : SchemaData) where
  -- the least level at which a condition, typed in an environment, passes
  abbrev pub least_level_in : Plain → EnvData → Option ℕ
  least_level_in e env =
      option_map_or (λ x. least_level (action_in env) x.tree) (types schema env [] e) (Some 0)

  -- that of a template or static policy: the greatest of those in its environments; none, where one has none
  abbrev pub least_level_of : TemplateData → Option ℕ
  least_level_of t = greatest (map (least_level_in (condition_of t)) (linked_envs schema t))

  -- the templates and static policies of a set, ascending, each with its least level
  abbrev pub levels_of : PolicySetData → List PolicyLevel
  levels_of s = map (λ t. record { policy_id = t.id; level = least_level_of t }) (written s)

  -- it passes at that level and at none below; where there is none, it passes nowhere
  abbrev pub HasLeastLevel : TemplateData → Type 0
  HasLeastLevel t =
      MatchOption (least_level_of t) ((n : ℕ) → PassesAt schema n t → ⊥)
      (λ m. PassesAt schema m t × ((n : ℕ) → n < m → PassesAt schema n t → ⊥))
