-- `&&`, `||` and `if` agree with their rules, and say what is found of the operands that are reached.
use Rattle.std.proofs.Common.{◌≡◌, ◌∙◌, ap, Bool, true, false, ◌&&◌, List, Option, Some, None, option_map, refl}
use Rattle.std.specs.Option.{option_and_then}
use Rattle.schema_types.specs.declared.kinds.Primitive.TheVariants.{Bool as BoolType, Long, String}
use Rattle.schema_types.specs.Ty.{Ty, true_type, false_type, primitive}
use Rattle.policy_expressions.specs.declared.kinds.Loc.{Loc}
use Rattle.policy_expressions.specs.Tree.{conj, disj, Mark}
use Rattle.typing_spec.specs.Capability.{Capability}
use Rattle.typing_spec.specs.Rules as rule
use Rattle.typing_spec.specs.Typing.{Typed, Typing, typing, at, and_caps, or_caps, and_typing, or_typing, if_typing}
use Rattle.findings.specs.Finding.{Finding}
use Rattle.typing_spec.specs.Operands.{is_boolean}
use Rattle.typecheck_rules.specs.Expected.{a_boolean}
use Rattle.typecheck_rules.specs.Walked.{Walked, Success, Fail, typing_of, has_typing, given_by, expect, ended}
use Rattle.typecheck_rules.specs.Operators.{unless_false, unless_true, and_walked, or_walked}
use Rattle.typecheck_rules.proofs.Steps.{ended_typing, IfFalse, expect_exact}
use Rattle.typecheck_rules.proofs.Refusals.{and_refuses, or_refuses}
use Rattle.plain_lemmas.proofs.Booleans.{and_false}

abbrev Marked : Type 0
Marked = Mark (Unit {0})

-- no typing, whatever the operands have
pub no_end : (b : Bool) (t : Typed) (fs : List Finding) → typing_of (ended b None t fs) ≡ None
no_end true t fs = refl
no_end false t fs = refl

none_after : {A B : Type 0} (k : A → Option B) → ((x : A) → k x ≡ None) → (o : Option A) → option_and_then k o ≡ None
none_after k h None = refl
none_after k h (Some x) = h x

-- the rule of the right side, where it is reached
abbrev and_rule : Ty → List Capability → Typed → Marked → Typing → Option Typing
and_rule t cs x m y = option_map (λ w. typing w (and_caps y.type cs y.caps) (conj x y.tree (at w m))) (rule.and_type t y.type)

abbrev or_rule : Ty → List Capability → Typed → Marked → Typing → Option Typing
or_rule t cs x m y = option_map (λ w. typing w (or_caps t y.type cs y.caps) (disj x y.tree (at w m))) (rule.or_type t y.type)

-- a first operand that is no test leaves no typing
pub and_other : (t : Ty) (cs : List Capability) (x : Typed) (m : Marked) (b : Option Typing) → IfFalse (is_boolean t) (and_typing t cs x m b ≡ None)
and_other true_type cs x m b = tt
and_other false_type cs x m b = tt
and_other (primitive BoolType) cs x m b = tt
and_other (primitive Long) cs x m b = none_after (and_rule (primitive Long) cs x m) (λ y. refl) b
and_other (primitive String) cs x m b = none_after (and_rule (primitive String) cs x m) (λ y. refl) b
and_other t cs x m b = none_after (and_rule t cs x m) (λ y. refl) b

pub or_other : (t : Ty) (cs : List Capability) (x : Typed) (m : Marked) (b : Option Typing) → IfFalse (is_boolean t) (or_typing t cs x m b ≡ None)
or_other true_type cs x m b = tt
or_other false_type cs x m b = tt
or_other (primitive BoolType) cs x m b = tt
or_other (primitive Long) cs x m b = none_after (or_rule (primitive Long) cs x m) (λ y. refl) b
or_other (primitive String) cs x m b = none_after (or_rule (primitive String) cs x m) (λ y. refl) b
or_other t cs x m b = none_after (or_rule t cs x m) (λ y. refl) b

pub if_other : (t : Ty) (cs : List Capability) (x : Typed) (m : Marked) (b c : Option Typing) → IfFalse (is_boolean t) (if_typing t cs x m b c ≡ None)
if_other true_type cs x m b c = tt
if_other false_type cs x m b c = tt
if_other (primitive BoolType) cs x m b c = tt
if_other (primitive Long) cs x m b c = refl
if_other (primitive String) cs x m b c = refl
if_other _ cs x m b c = refl

pub mapped_none : {A B : Type 0} (f : A → B) (o : Option A) (b : Bool) → IfFalse b (o ≡ None) → IfFalse b (option_map f o ≡ None)
mapped_none f o true h = tt
mapped_none f o false h = ap (option_map f) h

module _ (m : Marked) (r : Option Loc) where
  -- the right side of a left one that has a typing
  and_reached : (t : Ty) (cs : List Capability) (x : Typed) (w : Walked) (failed : Typed) (fs : List Finding) →
      typing_of (ended (has_typing (unless_false t (expect a_boolean r w))) (and_typing t cs x m (given_by (unless_false t (expect a_boolean r w)))) failed fs) ≡ and_typing t cs x m (typing_of w)
  and_reached false_type cs x w failed fs = refl
  and_reached true_type cs x w failed fs = by (expect a_boolean r w) ∙ expect_exact a_boolean r (and_rule true_type cs x m) (λ y. mapped_none (λ w. typing w (and_caps y.type cs y.caps) (conj x y.tree (at w m))) (rule.and_type true_type y.type) (is_boolean y.type) (and_refuses true_type y.type)) w
    where
      by : (v : Walked) → typing_of (ended (has_typing v) (option_and_then (and_rule true_type cs x m) (given_by v)) failed fs) ≡ option_and_then (and_rule true_type cs x m) (typing_of v)
      by (Success b) = ended_typing true (and_rule true_type cs x m b) failed fs
      by (Fail u gs) = ended_typing false (option_and_then (and_rule true_type cs x m) (given_by (Fail u gs))) failed fs
  and_reached t cs x w failed fs = by (expect a_boolean r w) ∙ expect_exact a_boolean r (and_rule t cs x m) (λ y. mapped_none (λ w. typing w (and_caps y.type cs y.caps) (conj x y.tree (at w m))) (rule.and_type t y.type) (is_boolean y.type) (and_refuses t y.type)) w
    where
      by : (v : Walked) → typing_of (ended (has_typing v) (option_and_then (and_rule t cs x m) (given_by v)) failed fs) ≡ option_and_then (and_rule t cs x m) (typing_of v)
      by (Success b) = ended_typing true (and_rule t cs x m b) failed fs
      by (Fail u gs) = ended_typing false (option_and_then (and_rule t cs x m) (given_by (Fail u gs))) failed fs

  or_reached : (t : Ty) (cs : List Capability) (x : Typed) (w : Walked) (failed : Typed) (fs : List Finding) →
      typing_of (ended (has_typing (unless_true t (expect a_boolean r w))) (or_typing t cs x m (given_by (unless_true t (expect a_boolean r w)))) failed fs) ≡ or_typing t cs x m (typing_of w)
  or_reached true_type cs x w failed fs = refl
  or_reached t cs x w failed fs = by (expect a_boolean r w) ∙ expect_exact a_boolean r (or_rule t cs x m) (λ y. mapped_none (λ w. typing w (or_caps t y.type cs y.caps) (disj x y.tree (at w m))) (rule.or_type t y.type) (is_boolean y.type) (or_refuses t y.type)) w
    where
      by : (v : Walked) → typing_of (ended (has_typing v) (option_and_then (or_rule t cs x m) (given_by v)) failed fs) ≡ option_and_then (or_rule t cs x m) (typing_of v)
      by (Success b) = ended_typing true (or_rule t cs x m b) failed fs
      by (Fail u gs) = ended_typing false (option_and_then (or_rule t cs x m) (given_by (Fail u gs))) failed fs

  and_left : (v : Walked) (after : List Capability → Walked) (before : Walked) →
      typing_of (and_walked m r v after before) ≡ option_and_then (λ a. and_typing a.type a.caps a.tree m (typing_of (after a.caps))) (typing_of v)
  and_left (Success a) after before = and_reached a.type a.caps a.tree (after a.caps) _ _
  and_left (Fail t fs) after before = ended_typing false _ _ _

  or_left : (v w : Walked) → typing_of (or_walked m r v w) ≡ option_and_then (λ a. or_typing a.type a.caps a.tree m (typing_of w)) (typing_of v)
  or_left (Success a) w = or_reached a.type a.caps a.tree w _ _
  or_left (Fail t fs) w = ended_typing false _ _ _

  module _ (l : Option Loc) where
    pub and_exact : (v : Walked) (after : List Capability → Walked) (before : Walked) →
        typing_of (and_walked m r (expect a_boolean l v) after before) ≡ option_and_then (λ a. and_typing a.type a.caps a.tree m (typing_of (after a.caps))) (typing_of v)
    and_exact v after before =
        and_left (expect a_boolean l v) after before ∙
        expect_exact a_boolean l (λ a. and_typing a.type a.caps a.tree m (typing_of (after a.caps))) (λ a. and_other a.type a.caps a.tree m (typing_of (after a.caps))) v

    pub or_exact : (v w : Walked) → typing_of (or_walked m r (expect a_boolean l v) w) ≡ option_and_then (λ a. or_typing a.type a.caps a.tree m (typing_of w)) (typing_of v)
    or_exact v w =
        or_left (expect a_boolean l v) w ∙
        expect_exact a_boolean l (λ a. or_typing a.type a.caps a.tree m (typing_of w)) (λ a. or_other a.type a.caps a.tree m (typing_of w)) v
