-- With which of the allowed errors evaluation ends.
use Rattle.std.proofs.Common.{◌≡◌, ℕ, Bool, true, false, List, Result, Ok, Err, refl}
use Rattle.policy_values.specs.Value.{Val, truth}
use Rattle.policy_core.specs.Allowed.{IsAllowedError}
use Rattle.policy_core.specs.declared.outcome.EvalError.{EvalError}
use Rattle.policy_core.specs.declared.outcome.Outcome.{Outcome}
use Rattle.policy_core.specs.declared.outcome.Outcome.TheVariants.{Value, Error}
use Rattle.policy_core.specs.Calls.{called, call_outcome}
use Rattle.policy_core.specs.Eval.{truth_of, truth_outcome, choose, with_value, in_prefix, set_outcome, record_outcome}
use Rattle.policy_expressions.specs.Functions.{function_of}

-- a value, or an error that is allowed only if it is one of these
abbrev pub EndsOnly : (EvalError → Type 0) → Outcome → Type 0
EndsOnly P (Value v) = Unit {0}
EndsOnly P (Error e) = IsAllowedError e → P e

abbrev pub AllEndOnly : {X : Type 0} → (EvalError → Type 0) → Result X EvalError → Type 0
AllEndOnly P (Ok x) = Unit {0}
AllEndOnly P (Err e) = IsAllowedError e → P e

-- it comes to the truth value
abbrev pub Comes : Bool → Outcome → Type 0
Comes b o = o ≡ Value (truth b)

pub weaker : (P R : EvalError → Type 0) → ((e : EvalError) → P e → R e) → (o : Outcome) → EndsOnly P o → EndsOnly R o
weaker P R f (Value v) h = tt
weaker P R f (Error e) h = λ a. f e (h a)

pub all_weaker : {X : Type 0} (P R : EvalError → Type 0) → ((e : EvalError) → P e → R e) → (r : Result X EvalError) → AllEndOnly P r → AllEndOnly R r
all_weaker P R f (Ok x) h = tt
all_weaker P R f (Err e) h = λ a. f e (h a)

-- what follows of an error where the outcome is that error
pub settled : (P : EvalError → Type 0) (o : Outcome) → EndsOnly (λ e. o ≡ Error e → P e) o → EndsOnly P o
settled P (Value v) h = tt
settled P (Error e) h = λ a. h a refl

module _ (P : EvalError → Type 0) where
  pub with_ends : (o : Outcome) (f : Val → Outcome) → EndsOnly P o → ((v : Val) → o ≡ Value v → EndsOnly P (f v)) → EndsOnly P (with_value o f)
  with_ends (Value v) f h k = k v refl
  with_ends (Error e) f h k = h

  pub choose_ends : (o x y : Outcome) → EndsOnly P o → (Comes true o → EndsOnly P x) → (Comes false o → EndsOnly P y) → EndsOnly P (choose (truth_of o) x y)
  choose_ends (Value (truth true)) x y h i j = i refl
  choose_ends (Value (truth false)) x y h i j = j refl
  choose_ends (Value v) x y h i j = λ a. absurd a
  choose_ends (Error e) x y h i j = h

  pub truth_ends : (o : Outcome) → EndsOnly P o → EndsOnly P (truth_outcome (truth_of o))
  truth_ends (Value (truth b)) h = tt
  truth_ends (Value v) h = λ a. absurd a
  truth_ends (Error e) h = h

  pub first_ends : {X : Type 0} (f : Val → X) (o : Outcome) (r : Result (List X) EvalError) → EndsOnly P o → AllEndOnly P r → AllEndOnly P (in_prefix f o r)
  first_ends f (Error e) r h k = h
  first_ends f (Value v) (Ok xs) h k = tt
  first_ends f (Value v) (Err e) h k = k

  pub set_ends : (r : Result (List Val) EvalError) → AllEndOnly P r → EndsOnly P (set_outcome r)
  set_ends (Ok vs) h = tt
  set_ends (Err e) h = h

  pub record_ends : (r : Result (List (List ℕ × Val)) EvalError) → AllEndOnly P r → EndsOnly P (record_outcome r)
  record_ends (Ok vs) h = tt
  record_ends (Err e) h = h

  pub call_ends : (f : List ℕ) (r : Result (List Val) EvalError) → AllEndOnly P r → ((vs : List Val) → EndsOnly P (called (function_of f) vs)) → EndsOnly P (call_outcome f r)
  call_ends f (Ok vs) h k = k vs
  call_ends f (Err e) h k = h
