-- Every error of a condition that has a type is one of its risks.
use Rattle.std.proofs.Common.{◌≡◌, true, List, [], Option, Some, None, refl, subst, ◌∙◌, IfSome}
use Rattle.std.proofs.lemmas.List.Elements.{All-nil}
use Rattle.policy_values.specs.Value.{truth}
use Rattle.schema_core.specs.EnvData.{declared_action}
use Rattle.policy_core.specs.declared.outcome.EvalError.{EvalError}
use Rattle.policy_core.specs.declared.outcome.Outcome.{Outcome}
use Rattle.policy_core.specs.declared.outcome.Outcome.TheVariants.{Value, Error}
use Rattle.policy_core.specs.Eval.{eval}
use Rattle.typing_spec.specs.Conditions.{IsCondition, ConditionsAreSound}
use Rattle.typing_spec.specs.Operands.{is_boolean}
use Rattle.typing_spec.specs.Signatures.{bool_type}
use Rattle.typing_spec.specs.Sound.{IsOfType, TypingIsSound, TypedHasItsType}
use Rattle.typing_spec.specs.Typing.{Typed, Typing, types}
use Rattle.condition_risks.specs.Risks.{risks}
use Rattle.condition_risks.specs.Expected.{IsStoredOutcome, AreStored, IsOneOf, EndsOnlyByRisks, ErrorsAreRisks, IsTruthValue, IsPassedOverByRisks, NoneIsPassedOver, WithoutRisks}
use Rattle.condition_risks.proofs.Ends.{EndsOnly}
use Rattle.condition_risks.proofs.Ending.{good, kept}

pub errors_are_risks : TypingIsSound → TypedHasItsType → ErrorsAreRisks
errors_are_risks sound marked schema ok env q whole of s conform e n k = by (types schema (declared_action env) [] e) refl
  where
    by : (o : Option Typing) → types schema (declared_action env) [] e ≡ o → IfSome o (EndsOnlyByRisks q s e)
    by None p = tt
    by (Some x) p = λ stored there err h.
        let f = kept q s stored there sound marked schema ok env whole of conform [] tt e n k x p in
        subst (EndsOnly (IsOneOf q s (risks stored [] x.tree))) (f.same ∙ h) (good q s stored there sound marked schema ok env whole of conform [] tt e n k x p [] (All-nil (λ y. IsStoredOutcome s (eval y q s))))
        (subst (IsOfType x.type) h f.value)

truth_value : (o : Outcome) → IsOfType bool_type o → ((err : EvalError) → o ≡ Error err → ⊥) → IsTruthValue o
truth_value (Value (truth b)) h k = (b, refl)
truth_value (Value v) h k = absurd h
truth_value (Error e) h k = absurd (k e refl)

pub none_is_passed_over : ErrorsAreRisks → ConditionsAreSound → NoneIsPassedOver
none_is_passed_over risky sound schema ok env q whole of s conform e n k =
    by (types schema (declared_action env) [] e) (risky schema ok env q whole of s conform e n k) (sound schema ok env q whole of s conform e n k)
  where
    by : (o : Option Typing) → IfSome o (EndsOnlyByRisks q s e) → IfSome o (λ x. is_boolean x.type ≡ true → IsCondition q s (eval e q s) x) → IfSome o (IsPassedOverByRisks q s e)
    by None f c = tt
    by (Some x) f c = λ b stored there h. truth_value (eval e q s) (c b).value (λ err i. h err (f stored there err i))

pub without_risks : NoneIsPassedOver → WithoutRisks
without_risks passed schema ok env q whole of s conform e n k = by (types schema (declared_action env) [] e) (passed schema ok env q whole of s conform e n k)
  where
    by : (o : Option Typing) → IfSome o (IsPassedOverByRisks q s e) → IfSome o (λ x. is_boolean x.type ≡ true → (stored : List Typed) → AreStored q s stored → risks stored [] x.tree ≡ [] → IsTruthValue (eval e q s))
    by None f = tt
    by (Some x) f = λ b stored there p. f b stored there (λ err i. subst (λ rs. IsOneOf q s rs err) p i)
