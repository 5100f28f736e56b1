-- A condition is true and is false exactly where its outline says so.
use Rattle.std.specs.Prelude.{◌≡◌, Bool, false, [], IfSome}
use Rattle.entity_store.specs.declared.request.Request.{Request}
use Rattle.entity_store.specs.Store.{Store}
use Rattle.schema_core.specs.EnvData.{LinkedEnvironment, declared_action}
use Rattle.schema_core.specs.Faults.{IsSchema}
use Rattle.schema_core.specs.Schema.{SchemaData}
use Rattle.policy_core.specs.declared.outcome.Outcome.{Outcome}
use Rattle.policy_core.specs.Eval.{eval}
use Rattle.policy_expressions.specs.Keys.{HasKeysOnce}
use Rattle.policy_expressions.specs.Plain.{Plain}
use Rattle.policy_expressions.specs.Slots.{has_slot}
use Rattle.typing_spec.specs.Conforms.{RequestConforms, StoreConforms, IsOf}
use Rattle.typing_spec.specs.Typing.{types}
use Rattle.condition_truth.specs.Outlines.{Asked, has_value, is_true, Sides, outline}
use Rattle.condition_truth.specs.Truth.{is_yes, is_no, is_value}

-- what holds of parts for a request and a store
abbrev pub asked_of : Request → Store → Asked → Bool
asked_of q s (has_value e) = is_value (eval e q s)
asked_of q s (is_true e) = is_yes (eval e q s)

-- the sides are those of an outcome
pub record AreSides (o : Outcome) (x : Sides) : Type 0 where
  pub yes : is_yes o ≡ x.yes
  pub no : is_no o ≡ x.no

abbrev pub OutlineDecides : Type 0
OutlineDecides =
    (schema : SchemaData) → IsSchema schema →
    (env : LinkedEnvironment) (q : Request) → RequestConforms schema q → IsOf schema q env →
    (s : Store) → StoreConforms schema s → (e : Plain) → has_slot e ≡ false → HasKeysOnce e →
    IfSome (types schema (declared_action env) [] e)
    (λ x. AreSides (eval e q s) (outline (asked_of q s) x.tree))
