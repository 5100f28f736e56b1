-- Levels of policies: templates, links and policies without slots.
use Rattle.std.specs.Prelude.{◌≡◌, ℕ, true, false, [], IfSome}
use Rattle.std.specs.List.{AllByRecursion}
use Rattle.entity_store.specs.declared.request.Request.{Request}
use Rattle.entity_store.specs.Store.{Store}
use Rattle.policy_expressions.specs.declared.kinds.SlotValues.{SlotValues}
use Rattle.policy_core.specs.Eval.{eval}
use Rattle.schema_core.specs.Schema.{SchemaData}
use Rattle.schema_core.specs.Faults.{IsSchema}
use Rattle.schema_core.specs.EnvData.{EnvData, action_in}
use Rattle.policy_expressions.specs.Plain.{Plain}
use Rattle.typing_spec.specs.Conforms.{RequestConforms, StoreConforms}
use Rattle.policy_expressions.specs.Keys.{HasKeysOnce}
use Rattle.typing_spec.specs.Typing.{types}
use Rattle.link_spec.specs.Accepted.{IsAcceptedTemplate, IsAcceptedLink}
use Rattle.policy_set.specs.Data.{TemplateData}
use Rattle.policy_set.specs.Condition.{condition_of, asks_slot}
use Rattle.policy_set.specs.Links.{own_condition, HasPlainBody, Fills}
use Rattle.link_spec.specs.Linked.{linked_envs}
use Rattle.level_spec.specs.Cut.{cut}
use Rattle.level_spec.specs.Levels.{passes}

module _ (schema : SchemaData) (n : ℕ) where
  -- the typed condition passes at the level in an environment
  abbrev pub PassesIn : Plain → EnvData → Type 0
  PassesIn e env = IfSome (types schema env [] e) (λ r. passes (action_in env) n r.tree ≡ true)

  -- a template, or a policy without slots, passes at the level in each of its environments
  abbrev pub PassesAt : TemplateData → Type 0
  PassesAt t = AllByRecursion (PassesIn (condition_of t)) (linked_envs schema t)

-- where an accepted template passes at a level, an accepted link of it has, on the store cut at that level,
-- the outcome that it has on the whole store
abbrev pub LinkLevelsAreSound : Type 0
LinkLevelsAreSound =
    (schema : SchemaData) → IsSchema schema → (t : TemplateData) → HasPlainBody t →
    HasKeysOnce t.body → IsAcceptedTemplate schema t → (n : ℕ) → PassesAt schema n t →
    (w : SlotValues) → Fills w t → IsAcceptedLink schema w t →
    (q : Request) → RequestConforms schema q → (s : Store) → StoreConforms schema s →
    eval (own_condition w t) q (cut n q s) ≡ eval (own_condition w t) q s

-- so has an accepted policy without slots that passes
abbrev pub StaticLevelsAreSound : Type 0
StaticLevelsAreSound =
    (schema : SchemaData) → IsSchema schema → (t : TemplateData) → HasPlainBody t → HasKeysOnce t.body →
    asks_slot t.principal ≡ false → asks_slot t.resource ≡ false → IsAcceptedTemplate schema t →
    (n : ℕ) → PassesAt schema n t →
    (q : Request) → RequestConforms schema q → (s : Store) → StoreConforms schema s →
    eval (condition_of t) q (cut n q s) ≡ eval (condition_of t) q s
