-- A condition is true, is false and has a value exactly where its propositions hold.
use Rattle.std.specs.Prelude.{◌≡◌, Bool, true, false, not, [], IfSome}
use Rattle.policy_values.specs.Value.{truth as bool}
use Rattle.entity_store.specs.declared.request.Request.{Request}
use Rattle.entity_store.specs.Store.{Store}
use Rattle.schema_core.specs.EnvData.{LinkedEnvironment, declared_action}
use Rattle.schema_core.specs.Faults.{IsSchema}
use Rattle.schema_core.specs.Schema.{SchemaData}
use Rattle.policy_core.specs.declared.outcome.EvalError.TheVariants.{IntegerOverflow, ExtensionOverflow}
use Rattle.policy_core.specs.declared.outcome.Outcome.{Outcome}
use Rattle.policy_core.specs.declared.outcome.Outcome.TheVariants.{Value, Error}
use Rattle.policy_core.specs.Eval.{eval, with_value}
use Rattle.policy_core.specs.Operators.{has_value, has_tag_value}
use Rattle.policy_expressions.specs.Keys.{HasKeysOnce}
use Rattle.policy_expressions.specs.Plain.{Plain}
use Rattle.policy_expressions.specs.Slots.{has_slot}
use Rattle.typing_spec.specs.Conforms.{RequestConforms, StoreConforms, IsOf}
use Rattle.typing_spec.specs.Typing.{types}
use Rattle.condition_truth.specs.Formulas.{Atom, is_true, has_attr, has_tag, fits, holds, Truth, truth}

abbrev pub is_yes : Outcome → Bool
is_yes (Value (bool b)) = b
is_yes o = false

abbrev pub is_no : Outcome → Bool
is_no (Value (bool b)) = not b
is_no o = false

abbrev pub is_value : Outcome → Bool
is_value (Value v) = true
is_value (Error e) = false

abbrev pub is_fit : Outcome → Bool
is_fit (Error IntegerOverflow) = false
is_fit (Error ExtensionOverflow) = false
is_fit o = true

-- which atoms hold for a request and a store
abbrev pub atoms_of : Request → Store → Atom → Bool
atoms_of q s (is_true e) = is_yes (eval e q s)
atoms_of q s (has_attr e n) = is_yes (with_value (eval e q s) (λ v. has_value v n s))
atoms_of q s (has_tag e k) = is_yes (with_value (eval e q s) (λ v. with_value (eval k q s) (λ w. has_tag_value v w s)))
atoms_of q s (fits e) = is_fit (eval e q s)

-- what is said of an outcome is so
pub record IsSaid (a : Atom → Bool) (o : Outcome) (k : Truth) : Type 0 where
  pub yes : is_yes o ≡ holds a k.if_true
  pub no : is_no o ≡ holds a k.if_false
  pub value : is_value o ≡ holds a k.if_value

abbrev pub TruthIsPropositional : Type 0
TruthIsPropositional =
    (schema : SchemaData) → IsSchema schema →
    (env : LinkedEnvironment) (q : Request) → RequestConforms schema q → IsOf schema q env →
    (s : Store) → StoreConforms schema s → (e : Plain) → has_slot e ≡ false → HasKeysOnce e →
    IfSome (types schema (declared_action env) [] e) (λ x. IsSaid (atoms_of q s) (eval e q s) (truth x.tree))
