-- Every error of a condition that has a type is one of its risks.
use Rattle.std.specs.Prelude.{◌≡◌, true, false, ◌⊎◌, Bool, List, [], ◌∷◌, None, is_some, All, IfSome, IsTrue}
use Rattle.policy_values.specs.Value.{truth, entity}
use Rattle.entity_store.specs.declared.request.Request.{Request}
use Rattle.entity_store.specs.Store.{Store, entity_at}
use Rattle.schema_core.specs.EnvData.{LinkedEnvironment, declared_action}
use Rattle.schema_core.specs.Faults.{IsSchema}
use Rattle.schema_core.specs.Schema.{SchemaData}
use Rattle.policy_core.specs.declared.outcome.EvalError.{EvalError}
use Rattle.policy_core.specs.declared.outcome.EvalError.TheVariants.{MissingEntity, IntegerOverflow, ExtensionOverflow}
use Rattle.policy_core.specs.declared.outcome.Outcome.{Outcome}
use Rattle.policy_core.specs.declared.outcome.Outcome.TheVariants.{Value, Error}
use Rattle.policy_core.specs.Eval.{eval}
use Rattle.policy_expressions.specs.Keys.{HasKeysOnce}
use Rattle.policy_expressions.specs.Plain.{Plain}
use Rattle.policy_expressions.specs.Slots.{has_slot}
use Rattle.typing_spec.specs.Conforms.{RequestConforms, StoreConforms, IsOf}
use Rattle.typing_spec.specs.Operands.{is_boolean}
use Rattle.typing_spec.specs.Typing.{Typed, Typing, types}
use Rattle.condition_risks.specs.Risks.{Risk, missing, integer_overflow, extension_overflow, risks}

-- the entity that an outcome is, if it is one, is in the store
abbrev pub IsStoredOutcome : Store → Outcome → Type 0
IsStoredOutcome s (Value (entity u)) = is_some (entity_at s u) ≡ true
IsStoredOutcome s o = Unit {0}

-- the entities that the expressions evaluate to are
abbrev pub AreStored : Request → Store → List Typed → Type 0
AreStored q s xs = All (λ x. IsStoredOutcome s (eval x q s)) xs

-- a risk comes about as the error: the expression evaluates to the id, which is not stored; the number does
-- not fit
abbrev pub Happens : Request → Store → EvalError → Risk → Type 0
Happens q s (MissingEntity u) (missing x) = (eval x q s ≡ Value (entity u)) × (entity_at s u ≡ None)
Happens q s IntegerOverflow (integer_overflow e) = eval e q s ≡ Error IntegerOverflow
Happens q s ExtensionOverflow (extension_overflow e) = eval e q s ≡ Error ExtensionOverflow
Happens q s err r = ⊥

-- one of the risks does
abbrev pub IsOneOf : Request → Store → List Risk → EvalError → Type 0
IsOneOf q s [] err = ⊥
IsOneOf q s (r ∷ rs) err = Happens q s err r ⊎ IsOneOf q s rs err

abbrev pub IsTruthValue : Outcome → Type 0
IsTruthValue o = (b : Bool) × (o ≡ Value (truth b))

-- what holds of the typing of each condition that has one, without slots, on each request and store that
-- conform to the schema
abbrev pub OnConforming : (Request → Store → Plain → Typing → Type 0) → Type 0
OnConforming P =
    (schema : SchemaData) → IsSchema schema →
    (env : LinkedEnvironment) (q : Request) → RequestConforms schema q → IsOf schema q env →
    (s : Store) → StoreConforms schema s → (e : Plain) → has_slot e ≡ false → HasKeysOnce e →
    IfSome (types schema (declared_action env) [] e) (P q s e)

-- where the entities of some expressions are stored, the condition ends with no error but its risks
abbrev pub EndsOnlyByRisks : Request → Store → Plain → Typing → Type 0
EndsOnlyByRisks q s e x =
    (stored : List Typed) → AreStored q s stored → (err : EvalError) → eval e q s ≡ Error err →
    IsOneOf q s (risks stored [] x.tree) err

abbrev pub ErrorsAreRisks : Type 0
ErrorsAreRisks = OnConforming EndsOnlyByRisks

-- a boolean condition none of whose risks comes about is true or false
abbrev pub IsPassedOverByRisks : Request → Store → Plain → Typing → Type 0
IsPassedOverByRisks q s e x =
    IsTrue (is_boolean x.type) → (stored : List Typed) → AreStored q s stored →
    ((err : EvalError) → IsOneOf q s (risks stored [] x.tree) err → ⊥) → IsTruthValue (eval e q s)

abbrev pub NoneIsPassedOver : Type 0
NoneIsPassedOver = OnConforming IsPassedOverByRisks

-- and so is one without risks
abbrev pub IsSureWithoutRisks : Request → Store → Plain → Typing → Type 0
IsSureWithoutRisks q s e x =
    IsTrue (is_boolean x.type) → (stored : List Typed) → AreStored q s stored →
    risks stored [] x.tree ≡ [] → IsTruthValue (eval e q s)

abbrev pub WithoutRisks : Type 0
WithoutRisks = OnConforming IsSureWithoutRisks
