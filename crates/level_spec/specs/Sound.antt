-- Levels are sound.
use Rattle.std.specs.Prelude.{◌≡◌, ℕ, true, false, [], Some, IfSome}
use Rattle.entity_store.specs.declared.request.Request.{Request}
use Rattle.entity_store.specs.Store.{Store}
use Rattle.schema_core.specs.Schema.{SchemaData}
use Rattle.schema_core.specs.Faults.{IsSchema}
use Rattle.schema_core.specs.EnvData.{LinkedEnvironment, declared_action}
use Rattle.policy_core.specs.Eval.{eval}
use Rattle.policy_expressions.specs.Slots.{has_slot}
use Rattle.policy_expressions.specs.Plain.{Plain}
use Rattle.typing_spec.specs.Conforms.{RequestConforms, StoreConforms, IsOf}
use Rattle.policy_expressions.specs.Keys.{HasKeysOnce}
use Rattle.typing_spec.specs.Typing.{types}
use Rattle.level_spec.specs.Cut.{cut}
use Rattle.level_spec.specs.Levels.{passes}

-- where the request, of the environment, and the store conform, a typed condition without slots that passes
-- at a level has, on the store cut at that level, the outcome that it has on the whole store
abbrev pub LevelsAreSound : Type 0
LevelsAreSound =
    (schema : SchemaData) → IsSchema schema →
    (env : LinkedEnvironment) (q : Request) → RequestConforms schema q → IsOf schema q env →
    (s : Store) → StoreConforms schema s → (n : ℕ) →
    (e : Plain) → has_slot e ≡ false → HasKeysOnce e →
    IfSome (types schema (declared_action env) [] e)
    (λ r. passes (Some env.environment.action) n r.tree ≡ true → eval e q (cut n q s) ≡ eval e q s)
