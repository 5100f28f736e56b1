-- How an operator's end agrees with its rule, and says what its operands found.
use Rattle.std.proofs.Common.{◌≡◌, sym, ap, subst, Bool, true, false, ◌&&◌, List, [], ◌++◌, Option, Some, None, cond, refl}
use Rattle.std.specs.Bool.{⊤}
use Rattle.std.specs.Option.{option_and_then}
use Rattle.policy_expressions.specs.declared.kinds.Loc.{Loc}
use Rattle.policy_expressions.specs.Tree.{mark_of}
use Rattle.schema_types.specs.Ty.{Ty}
use Rattle.typing_spec.specs.Typing.{Typed, Typing}
use Rattle.findings.specs.Finding.{Finding}
use Rattle.typecheck_rules.specs.Expected.{Expected}
use Rattle.typecheck_rules.specs.Walked.{Walked, Success, Fail, typing_of, findings_of, has_typing, given_by, untyped, unexpected, expect_given, expect, ended, one_walked, both, two_walked}
use Rattle.typecheck_rules.specs.Faults.{at_typed, at_both}
use Rattle.typecheck_rules.proofs.Parts.{Sub, sub_self, sub_left, sub_both, sub_none}

-- an end has the typing of the rule where all operands have theirs
pub ended_typing : (b : Bool) (o : Option Typing) (t : Typed) (fs : List Finding) → typing_of (ended b o t fs) ≡ cond b o None
ended_typing true (Some a) t fs = refl
ended_typing false (Some a) t fs = refl
ended_typing true None t fs = refl
ended_typing false None t fs = refl

pub ended_findings : (o : Option Typing) (t : Typed) (fs : List Finding) → findings_of (ended false o t fs) ≡ fs
ended_findings (Some a) t fs = refl
ended_findings None t fs = refl

-- where an operand failed all is reported
pub ended_says : (b : Bool) (o : Option Typing) (t : Typed) (fs gs : List Finding) → b ≡ false → Sub gs fs → Sub gs (findings_of (ended b o t fs))
ended_says b o t fs gs e h f i = rw e (rw (ended_findings o t fs) (h f i))

pub one_exact : (rule : Typing → Option Typing) (failed : Typed) (own : List Finding) (v : Walked) → typing_of (one_walked rule failed own v) ≡ option_and_then rule (typing_of v)
one_exact rule failed own (Success a) = ended_typing true (rule a) failed ([] ++ own)
one_exact rule failed own (Fail t fs) = ended_typing false (option_and_then rule (given_by (Fail t fs))) failed (fs ++ own)

pub two_exact : (rule : Typing → Typing → Option Typing) (failed : Typed) (own : List Finding) (v w : Walked) → typing_of (two_walked rule failed own v w) ≡ both rule (typing_of v) (typing_of w)
two_exact rule failed own (Success a) (Success b) = ended_typing true (rule a b) failed ([] ++ ([] ++ own))
two_exact rule failed own (Success a) (Fail u gs) = ended_typing false (both rule (Some a) (given_by (Fail u gs))) failed ([] ++ (gs ++ own))
two_exact rule failed own (Fail t fs) w = ended_typing false (both rule (given_by (Fail t fs)) (given_by w)) failed (fs ++ (findings_of w ++ own))

-- where the test fails
abbrev pub IfFalse : Bool → Type 0 → Type 0
IfFalse true P = ⊤
IfFalse false P = P

pub if_false : (b : Bool) {P : Type 0} → P → IfFalse b P
if_false true p = tt
if_false false p = p

pub of_false : (b : Bool) {P : Type 0} → b ≡ false → IfFalse b P → P
of_false b {P} e h = subst (λ c. IfFalse c P) e h

-- an operand that has to fit, and a rule that has nothing for what doesn't
module _ (x : Expected) (l : Option Loc) where
  given_fails : (n : Option Ty) (t : Typed) (fs : List Finding) → typing_of (expect_given x l n t fs) ≡ None
  given_fails None t fs = refl
  given_fails (Some u) t fs = by (x.fits u)
    where
      by : (b : Bool) → typing_of (cond b (Fail t fs) (Fail (untyped t) (fs ++ unexpected x l u))) ≡ None
      by true = refl
      by false = refl

  given_has_none : (n : Option Ty) (t : Typed) (fs : List Finding) → has_typing (expect_given x l n t fs) ≡ false
  given_has_none None t fs = refl
  given_has_none (Some u) t fs = by (x.fits u)
    where
      by : (b : Bool) → has_typing (cond b (Fail t fs) (Fail (untyped t) (fs ++ unexpected x l u))) ≡ false
      by true = refl
      by false = refl

  given_says : (n : Option Ty) (t : Typed) (fs : List Finding) → Sub fs (findings_of (expect_given x l n t fs))
  given_says None t fs = sub_self fs
  given_says (Some u) t fs = by (x.fits u)
    where
      by : (b : Bool) → Sub fs (findings_of (cond b (Fail t fs) (Fail (untyped t) (fs ++ unexpected x l u))))
      by true = sub_self fs
      by false = sub_left fs fs (unexpected x l u) (sub_self fs)

  pub expect_says : (w : Walked) → Sub (findings_of w) (findings_of (expect x l w))
  expect_says (Success a) = sub_none (findings_of (expect x l (Success a)))
  expect_says (Fail t fs) = given_says (mark_of t).note t fs

  -- an operand that failed stays so
  pub expect_fails : (w : Walked) → has_typing w ≡ false → has_typing (expect x l w) ≡ false
  expect_fails (Success a) e = by (x.fits a.type)
    where
      by : (b : Bool) → has_typing (cond b (Success a) (Fail (untyped a.tree) (unexpected x l a.type))) ≡ false
      by true = e
      by false = refl
  expect_fails (Fail t fs) e = given_has_none (mark_of t).note t fs

  pub expect_exact : {B : Type 0} → (rule : Typing → Option B) → ((a : Typing) → IfFalse (x.fits a.type) (rule a ≡ None)) → (w : Walked) →
      option_and_then rule (typing_of (expect x l w)) ≡ option_and_then rule (typing_of w)
  expect_exact {B} rule none (Success a) = by (x.fits a.type) (none a)
    where
      by : (b : Bool) → IfFalse b (rule a ≡ None) → option_and_then rule (typing_of (cond b (Success a) (Fail (untyped a.tree) (unexpected x l a.type)))) ≡ rule a
      by true h = refl
      by false h = sym h
  expect_exact {B} rule none (Fail t fs) = ap (option_and_then rule) (given_fails (mark_of t).note t fs)

-- an operator of one operand says what its operand found
pub one_says : (rule : Typing → Option Typing) (failed : Typed) (own : List Finding) (v : Walked) → has_typing v ≡ false → Sub (findings_of v) (findings_of (one_walked rule failed own v))
one_says rule failed own v e = ended_says (has_typing v) (option_and_then rule (given_by v)) failed (findings_of v ++ own) (findings_of v) e (sub_left (findings_of v) (findings_of v) own (sub_self (findings_of v)))

pub two_says : (rule : Typing → Typing → Option Typing) (failed : Typed) (own : List Finding) (v w : Walked) → (has_typing v && has_typing w) ≡ false →
    Sub (findings_of v ++ findings_of w) (findings_of (two_walked rule failed own v w))
two_says rule failed own v w e =
    ended_says (has_typing v && has_typing w) (both rule (given_by v) (given_by w)) failed (findings_of v ++ (findings_of w ++ own)) (findings_of v ++ findings_of w) e
    (sub_both (findings_of v) (findings_of w) (findings_of v) (findings_of w ++ own) (sub_self (findings_of v)) (sub_left (findings_of w) (findings_of w) own (sub_self (findings_of w))))

-- a step of one operand that says what a failed operand found says all faults
pub step_reported : (s : Walked → Walked) (w : Walked) (fs : List Finding) → ((v : Walked) → has_typing v ≡ false → Sub (findings_of v) (findings_of (s v))) → Sub fs (findings_of w) →
    Sub (at_typed (typing_of w) fs (λ a. findings_of (s (Success a)))) (findings_of (s w))
step_reported s (Success a) fs tells h = sub_self (findings_of (s (Success a)))
step_reported s (Fail t gs) fs tells h = λ f i. tells (Fail t gs) refl f (h f i)

pub steps_reported : (s : Walked → Walked → Walked) (v w : Walked) (fs gs : List Finding) →
    ((v w : Walked) → (has_typing v && has_typing w) ≡ false → Sub (findings_of v ++ findings_of w) (findings_of (s v w))) → Sub fs (findings_of v) → Sub gs (findings_of w) →
    Sub (at_both (typing_of v) (typing_of w) (fs ++ gs) (λ a b. findings_of (s (Success a) (Success b)))) (findings_of (s v w))
steps_reported s (Success a) (Success b) fs gs tells h k = sub_self (findings_of (s (Success a) (Success b)))
steps_reported s (Success a) (Fail u is) fs gs tells h k = λ f i. tells (Success a) (Fail u is) refl f (sub_both fs gs [] is h k f i)
steps_reported s (Fail t hs) w fs gs tells h k = λ f i. tells (Fail t hs) w refl f (sub_both fs gs hs (findings_of w) h k f i)
