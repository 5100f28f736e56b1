-- Coverage of conditions with their typings.
use Rattle.std.specs.Prelude.{◌≡◌, false, List, [], map, Some, IsTrue}
use Rattle.std.specs.List.{AllByRecursion}
use Rattle.entity_store.specs.declared.request.Request.{Request}
use Rattle.entity_store.specs.Store.{Store}
use Rattle.policy_core.specs.Eval.{eval}
use Rattle.policy_expressions.specs.Slots.{has_slot}
use Rattle.schema_core.specs.EnvData.{LinkedEnvironment, declared_action}
use Rattle.schema_core.specs.Faults.{IsSchema}
use Rattle.schema_core.specs.Schema.{SchemaData}
use Rattle.policy_expressions.specs.Plain.{Plain}
use Rattle.typing_spec.specs.Conforms.{RequestConforms, IsOf}
use Rattle.typing_spec.specs.Operands.{is_boolean}
use Rattle.policy_expressions.specs.Keys.{HasKeysOnce}
use Rattle.typing_spec.specs.Typing.{Typing, types}
use Rattle.reads_spec.specs.Cover.{IsPartOf, restricted}
use Rattle.reads_spec.specs.Reached.{ReachedConforms}

-- a condition without slots, with its typing in the environment, which is a boolean; each of its records has
-- each key once
pub record HasTyping (schema : SchemaData) (env : LinkedEnvironment) (c : Plain × Typing) : Type 0 where
  pub filled : has_slot c.0 ≡ false
  pub keys : HasKeysOnce c.0
  pub typed : types schema (declared_action env) [] c.0 ≡ Some c.1
  pub boolean : IsTrue (is_boolean c.1.type)

-- where the request, of the environment, and the entities that the typed conditions reach conform, each
-- condition with its typing has, on each store between the one restricted to what the typed conditions read
-- and the whole one, the outcome that it has on the whole one
abbrev pub ConditionsAreCovered : Type 0
ConditionsAreCovered =
    (schema : SchemaData) → IsSchema schema →
    (env : LinkedEnvironment) (q : Request) → RequestConforms schema q → IsOf schema q env →
    (whole : Store) (cs : List (Plain × Typing)) → AllByRecursion (HasTyping schema env) cs →
    ReachedConforms schema (declared_action env) (map (λ c. c.1.tree) cs) q whole →
    (s : Store) → IsPartOf (restricted schema (declared_action env) (map (λ c. c.1.tree) cs) q whole) s →
    IsPartOf s whole →
    map (λ c. eval c.0 q s) cs ≡ map (λ c. eval c.0 q whole) cs
