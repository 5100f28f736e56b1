-- A condition is true, is false and has a value exactly where its propositions hold.
use Rattle.std.proofs.Common.{[], Option, Some, None, subst, IfSome}
use Rattle.schema_core.specs.EnvData.{declared_action}
use Rattle.policy_core.specs.Eval.{eval}
use Rattle.typing_spec.specs.Sound.{TypingIsSound, TypedHasItsType}
use Rattle.typing_spec.specs.Typing.{Typing, types}
use Rattle.condition_truth.specs.Formulas.{truth}
use Rattle.condition_truth.specs.Truth.{atoms_of, IsSaid, TruthIsPropositional}
use Rattle.condition_truth.proofs.Noted.{F, below, promised}
use Rattle.condition_truth.proofs.Said.{said}

pub truth_is_propositional : TypingIsSound → TypedHasItsType → TruthIsPropositional
truth_is_propositional sound marked schema ok env q whole of s stored e n k =
    by (types schema (declared_action env) [] e) (promised sound marked schema ok env q whole of s stored [] tt e n k (below sound marked schema ok env q whole of s stored [] tt e n k))
  where
    by : (o : Option Typing) → IfSome o (F sound marked schema ok env q whole of s stored e) → IfSome o (λ x. IsSaid (atoms_of q s) (eval e q s) (truth x.tree))
    by None f = tt
    by (Some x) f = subst (λ o. IsSaid (atoms_of q s) o (truth x.tree)) f.0.same (said q s x.tree f.1.0 f.1.1)
