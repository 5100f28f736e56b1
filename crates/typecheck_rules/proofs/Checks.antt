-- A condition is checked as it is typed.
use Rattle.std.proofs.Common.{◌≡◌, ◌∙◌, ap, sym, subst, Bool, false, true, List, [], ◌∷◌, ◌++◌, Option, Some, None, cond, refl}
use Rattle.std.specs.Prelude.{nat_lt, if◌then◌else◌}
use Rattle.policy_expressions.specs.declared.kinds.Loc.{Loc}
use Rattle.policy_expressions.specs.Tree.{mark_of, depth_of}
use Rattle.schema_types.specs.declared.kinds.Primitive.TheVariants.{Bool as BoolType, Long, String}
use Rattle.schema_types.specs.Ty.{Ty, true_type, false_type, primitive}
use Rattle.typing_spec.specs.Capability.{Capability}
use Rattle.typing_spec.specs.Typing.{Typed, typing}
use Rattle.typing_spec.specs.Operands.{is_boolean}
use Rattle.typecheck_rules.specs.Expected.{a_boolean}
use Rattle.typecheck_rules.specs.Walked.{Walked, Success, Fail, typing_of, findings_of, untyped, unexpected, expect_given, expect}
use Rattle.typecheck_rules.specs.Operators.{place}
use Rattle.typecheck_rules.specs.Walk.{walked}
use Rattle.typecheck_rules.specs.Check as check
use Rattle.typecheck_rules.specs.Check.{check_of, check_by, check_walked, condition_walked, CheckIsExact, SaysWhy, RefusalIsReported}
use Rattle.typecheck_rules.specs.Laws.{HasTypingOrFinding}
use Rattle.typecheck_rules.proofs.Failure.{failure_reported}
use Rattle.typecheck_rules.proofs.Exact.{exact}

typed_check : (l : Option Loc) (t : Ty) (cs : List Capability) (x : Typed) →
    check_walked (expect a_boolean l (Success (typing t cs x))) ≡ check_of t x (findings_of (expect a_boolean l (Success (typing t cs x))))
typed_check l true_type cs x = refl
typed_check l false_type cs x = refl
typed_check l (primitive BoolType) cs x = refl
typed_check l (primitive Long) cs x = refl
typed_check l (primitive String) cs x = refl
typed_check l _ cs x = refl

walked_check : (l : Option Loc) (w : Walked) → check_walked (expect a_boolean l w) ≡ check_by (typing_of w) (findings_of (expect a_boolean l w))
walked_check l (Success a) = typed_check l a.type a.caps a.tree
walked_check l (Fail t fs) = of_given (mark_of t).note
  where
    fit : (u : Ty) (b : Bool) → check_walked (cond b (Fail t fs) (Fail (untyped t) (fs ++ unexpected a_boolean l u))) ≡ check.Fail (findings_of (cond b (Fail t fs) (Fail (untyped t) (fs ++ unexpected a_boolean l u))))
    fit u true = refl
    fit u false = refl

    of_given : (n : Option Ty) → check_walked (expect_given a_boolean l n t fs) ≡ check.Fail (findings_of (expect_given a_boolean l n t fs))
    of_given None = refl
    of_given (Some u) = fit u (is_boolean u)

pub check_exact : CheckIsExact
check_exact schema env e = ap (λ c. if nat_lt 200 (depth_of e) then check.TooDeep else c) (walked_check (place e) (walked schema env [] e) ∙ ap (λ t. check_by t (findings_of (condition_walked schema env e))) (exact schema env [] e))

-- what is typed succeeds, is irrelevant, or is reported to be no boolean
typed_says : (l : Option Loc) (t : Ty) (cs : List Capability) (x : Typed) → SaysWhy (check_walked (expect a_boolean l (Success (typing t cs x))))
typed_says l true_type cs x = tt
typed_says l false_type cs x = tt
typed_says l (primitive BoolType) cs x = tt
typed_says l (primitive Long) cs x = tt
typed_says l (primitive String) cs x = tt
typed_says l _ cs x = tt

-- what has no typing has a finding
walked_says : (l : Option Loc) (w : Walked) → HasTypingOrFinding (typing_of w) (findings_of w) → SaysWhy (check_walked (expect a_boolean l w))
walked_says l (Success a) h = typed_says l a.type a.caps a.tree
walked_says l (Fail t []) h = absurd h
walked_says l (Fail t (f ∷ fs)) h = of_given (mark_of t).note
  where
    fit : (u : Ty) (b : Bool) → SaysWhy (check_walked (cond b (Fail t (f ∷ fs)) (Fail (untyped t) ((f ∷ fs) ++ unexpected a_boolean l u))))
    fit u true = tt
    fit u false = tt

    of_given : (n : Option Ty) → SaysWhy (check_walked (expect_given a_boolean l n t (f ∷ fs)))
    of_given None = tt
    of_given (Some u) = fit u (is_boolean u)

pub refusal_known : RefusalIsReported
refusal_known schema env known e names = by (nat_lt 200 (depth_of e))
  where
    by : (b : Bool) → SaysWhy (if b then check.TooDeep else check_walked (condition_walked schema env e))
    by true = tt
    by false = walked_says (place e) (walked schema env [] e) (subst (λ o. HasTypingOrFinding o (findings_of (walked schema env [] e))) (sym (exact schema env [] e)) (failure_reported schema env known [] e names))
