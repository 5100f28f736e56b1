-- Findings that all keep a property; what operands give that have to fit.
use Rattle.std.proofs.Common.{◌≡◌, ◌∙◌, sym, ap, Bool, true, false, List, [], ◌∷◌, ◌++◌, Option, Some, None, option_map, cond, refl}
use Rattle.std.specs.List.{AllByRecursion}
use Rattle.policy_expressions.specs.declared.kinds.Loc.{Loc}
use Rattle.policy_expressions.specs.Tree.{lit, var, slot, ite, conj, disj, unary, binary, attr, has, like, is_type, call, set, rec, Mark, mark_of, with_mark}
use Rattle.schema_types.specs.Ty.{Ty}
use Rattle.typing_spec.specs.Typing.{Typed, Typing, typing}
use Rattle.findings.specs.Finding.{Finding, UnexpectedType}
use Rattle.typecheck_rules.specs.Expected.{Expected}
use Rattle.typecheck_rules.specs.Walked.{Walked, Success, Fail, findings_of, untyped, unexpected, expect_given, expect, expect_if, ended}
use Rattle.typecheck_rules.specs.Operators.{type_given}
use Rattle.typecheck_rules.specs.Own.{if_none, if_not}
use Rattle.typecheck_rules.proofs.Steps.{IfFalse}

abbrev pub Each : (Finding → Type 0) → List Finding → Type 0
Each Q fs = AllByRecursion Q fs

module _ (Q : Finding → Type 0) where
  pub each_both : (fs gs : List Finding) → Each Q fs → Each Q gs → Each Q (fs ++ gs)
  each_both [] gs h k = k
  each_both (f ∷ fs) gs h k = (h.0, each_both fs gs h.1 k)

  pub each_of : (R : Finding → Type 0) → ((f : Finding) → Q f → R f) → (fs : List Finding) → Each Q fs → Each R fs
  each_of R k [] h = tt
  each_of R k (f ∷ fs) h = (k f h.0, each_of R k fs h.1)

  pub each_ended : (b : Bool) (o : Option Typing) (t : Typed) (fs : List Finding) → Each Q fs → Each Q (findings_of (ended b o t fs))
  each_ended true (Some a) t fs h = tt
  each_ended false (Some a) t fs h = h
  each_ended true None t fs h = h
  each_ended false None t fs h = h

  pub each_if_none : {A : Type 0} (o : Option A) (fs : List Finding) → (o ≡ None → Each Q fs) → Each Q (if_none o fs)
  each_if_none None fs h = h refl
  each_if_none (Some a) fs h = tt

  pub each_if_not : (b : Bool) (fs : List Finding) → (b ≡ false → Each Q fs) → Each Q (if_not b fs)
  each_if_not true fs h = tt
  each_if_not false fs h = h refl

  -- what is found of an operand that does not fit
  abbrev pub Bar : Expected → Option Loc → Walked → Type 0
  Bar x l v = (t : Ty) → type_given v ≡ Some t → IfFalse (x.fits t) (Q (record { kind = UnexpectedType x.types t (x.help t); loc = l }))

  pub each_expect : (x : Expected) (l : Option Loc) (v : Walked) → Bar x l v → Each Q (findings_of v) → Each Q (findings_of (expect x l v))
  each_expect x l (Success a) q h = by (x.fits a.type) (q a.type refl)
    where
      by : (b : Bool) → IfFalse b (Q (record { kind = UnexpectedType x.types a.type (x.help a.type); loc = l })) → Each Q (findings_of (cond b (Success a) (Fail (untyped a.tree) (unexpected x l a.type))))
      by true k = tt
      by false k = (k, tt)
  each_expect x l (Fail t fs) q h = of_given (mark_of t).note refl
    where
      fit : (u : Ty) (b : Bool) → IfFalse b (Q (record { kind = UnexpectedType x.types u (x.help u); loc = l })) → Each Q (findings_of (cond b (Fail t fs) (Fail (untyped t) (fs ++ unexpected x l u))))
      fit u true k = h
      fit u false k = each_both fs (unexpected x l u) h (k, tt)

      of_given : (n : Option Ty) → (mark_of t).note ≡ n → Each Q (findings_of (expect_given x l n t fs))
      of_given None e = h
      of_given (Some u) e = fit u (x.fits u) (q u (ap (λ o. option_map (λ a. a.type) (option_map (λ s. typing s [] t) o)) e))

pub mark_with : (t : Typed) (m : Mark (Option Ty)) → mark_of (with_mark t m) ≡ m
mark_with (lit l a) m = refl
mark_with (var v a) m = refl
mark_with (slot i a) m = refl
mark_with (ite x y z a) m = refl
mark_with (conj x y a) m = refl
mark_with (disj x y a) m = refl
mark_with (unary o x a) m = refl
mark_with (binary o x y a) m = refl
mark_with (attr x n a) m = refl
mark_with (has x n a) m = refl
mark_with (like x p a) m = refl
mark_with (is_type x t a) m = refl
mark_with (call f xs a) m = refl
mark_with (set xs a) m = refl
mark_with (rec xs a) m = refl

-- an expression without a type of its own gives none
none_given : (t : Typed) (fs : List Finding) (s : Ty) → type_given (Fail (untyped t) fs) ≡ Some s → ⊥
none_given t fs s h =
    let none = ap (λ m. option_map (λ a. a.type) (option_map (λ u. typing u [] (untyped t)) m.note)) (mark_with t (record { note = None; loc = (mark_of t).loc })) in
    absurd (none≢some (sym none ∙ h))
  where
    none≢some : None ≡ Some s → ⊥
    none≢some e = cc

-- what an operand gives that has to fit, it gives without that too
pub expect_gives : (x : Expected) (l : Option Loc) (v : Walked) (s : Ty) → type_given (expect x l v) ≡ Some s → type_given v ≡ Some s
expect_gives x l (Success a) s = by (x.fits a.type)
  where
    by : (b : Bool) → type_given (cond b (Success a) (Fail (untyped a.tree) (unexpected x l a.type))) ≡ Some s → Some a.type ≡ Some s
    by true h = h
    by false h = absurd (none_given a.tree (unexpected x l a.type) s h)
expect_gives x l (Fail t fs) s = of_given (mark_of t).note
  where
    fit : (u : Ty) (b : Bool) → type_given (cond b (Fail t fs) (Fail (untyped t) (fs ++ unexpected x l u))) ≡ Some s → type_given (Fail t fs) ≡ Some s
    fit u true h = h
    fit u false h = absurd (none_given t (fs ++ unexpected x l u) s h)

    of_given : (n : Option Ty) → type_given (expect_given x l n t fs) ≡ Some s → type_given (Fail t fs) ≡ Some s
    of_given None h = h
    of_given (Some u) h = fit u (x.fits u) h

pub expect_if_gives : (o : Option Expected) (l : Option Loc) (v : Walked) (s : Ty) → type_given (expect_if o l v) ≡ Some s → type_given v ≡ Some s
expect_if_gives None l v s h = h
expect_if_gives (Some x) l v s h = expect_gives x l v s h
