-- Conditions that have a boolean type.
use Rattle.std.proofs.Common.{◌≡◌, true, [], Option, Some, None, subst, IfSome}
use Rattle.entity_store.specs.declared.request.Request.{Request}
use Rattle.entity_store.specs.Store.{Store}
use Rattle.schema_types.specs.declared.kinds.Primitive.TheVariants.{Bool as BoolType, Long, String}
use Rattle.schema_types.specs.Ty.{Ty, true_type, false_type, primitive}
use Rattle.schema_core.specs.EnvData.{declared_action}
use Rattle.policy_core.specs.declared.outcome.Outcome.{Outcome}
use Rattle.policy_core.specs.Eval.{eval}
use Rattle.typing_spec.specs.Conditions.{IsCondition, ConditionsAreSound}
use Rattle.typing_spec.specs.Operands.{is_boolean}
use Rattle.typing_spec.specs.Signatures.{bool_type}
use Rattle.typing_spec.specs.Sound.{IsOfType, Fulfils}
use Rattle.typing_spec.specs.Typing.{Typing, types}
use Rattle.typing_spec.proofs.Booleans.{IsBoolean, by_truth, never_true}
use Rattle.typing_spec.proofs.Soundness.{typing_is_sound}

pub is_one : (t : Ty) → is_boolean t ≡ true → IsBoolean t
is_one true_type h = tt
is_one false_type h = tt
is_one (primitive BoolType) h = tt
is_one (primitive Long) h = absurd (cc)
is_one (primitive String) h = absurd (cc)
is_one t h = absurd (cc)

condition : (q : Request) (s : Store) (o : Outcome) (x : Typing) → Fulfils q s o x → is_boolean x.type ≡ true → IsCondition q s o x
condition q s o x f h = record {
  value = by_truth x.type (IsOfType bool_type) o (is_one x.type h) f.value (λ b m. tt) (λ e m. m);
  same = f.same;
  not_true = λ e. never_true o (subst (λ t. IsOfType t o) e f.value);
}

pub conditions_are_sound : ConditionsAreSound
conditions_are_sound schema ok env q whole of s stored e n k = by (types schema (declared_action env) [] e) (typing_is_sound schema ok env q whole of s stored [] tt e n k)
  where
    by : (o : Option Typing) → IfSome o (Fulfils q s (eval e q s)) → IfSome o (λ x. is_boolean x.type ≡ true → IsCondition q s (eval e q s) x)
    by None f = tt
    by (Some x) f = condition q s (eval e q s) x f
