-- `&&`, `||` and `if` say what is found of the operands that are reached.
use Rattle.std.proofs.Common.{◌≡◌, sym, ap, subst, Bool, false, ◌&&◌, List, [], ◌++◌, Option, refl}
use Rattle.schema_types.specs.declared.kinds.Primitive.TheVariants.{Bool as BoolType, Long, String}
use Rattle.schema_types.specs.Ty.{Ty, true_type, false_type, primitive}
use Rattle.policy_expressions.specs.declared.kinds.Loc.{Loc}
use Rattle.policy_expressions.specs.Tree.{Mark}
use Rattle.typing_spec.specs.Capability.{Capability}
use Rattle.typing_spec.specs.Typing.{Typed, Typing, typing}
use Rattle.findings.specs.Finding.{Finding}
use Rattle.typecheck_rules.specs.Expected.{a_boolean}
use Rattle.typecheck_rules.specs.Walked.{Walked, Success, Fail, typing_of, findings_of, has_typing, untyped, unexpected, expect}
use Rattle.typecheck_rules.specs.Operators.{type_given, skipped, reached_after, reached_besides, and_sides, and_walked, or_sides, or_walked, test_given, branches_found, if_parts, if_walked}
use Rattle.typecheck_rules.specs.Faults.{at_typed, at_both, side_found, and_faults, or_faults, if_faults}
use Rattle.typecheck_rules.proofs.Parts.{Sub, sub_self, sub_left, sub_right, sub_both, sub_none}
use Rattle.typecheck_rules.proofs.Steps.{ended_says, IfFalse, of_false, expect_says, expect_fails, step_reported}
use Rattle.plain_lemmas.proofs.Booleans.{and_false, and_false_left}

-- behind a first operand that failed
behind_failed : (v : Walked) (after : List Capability → Walked) (before : Walked) → IfFalse (has_typing v) (reached_after v after before ≡ before)
behind_failed (Success a) after before = tt
behind_failed (Fail t fs) after before = refl

beside_failed : (v w : Walked) → IfFalse (has_typing v) (reached_besides v w ≡ w)
beside_failed (Success a) w = tt
beside_failed (Fail t fs) w = refl

-- what is found of an operand that has to be a test
side_reported : (r : Option Loc) (w : Walked) (fs : List Finding) → Sub fs (findings_of w) → Sub (at_typed (typing_of w) fs (side_found r)) (findings_of (expect a_boolean r w))
side_reported r w fs h = step_reported (λ v. expect a_boolean r v) w fs (λ v e. expect_says a_boolean r v) h

module _ (m : Mark (Unit {0})) where
  -- both sides of `&&` are reported, unless there is a typing
  and_left_says : (v w : Walked) → has_typing v ≡ false → Sub (findings_of v ++ findings_of w) (findings_of (and_sides m v w))
  and_left_says v w e = ended_says (has_typing v && has_typing w) _ _ (findings_of v ++ findings_of w) (findings_of v ++ findings_of w) (and_false_left (has_typing v) (has_typing w) e) (sub_self (findings_of v ++ findings_of w))

  and_right_says : (v w : Walked) → Sub (findings_of w) (findings_of (and_sides m v w))
  and_right_says v (Success b) = sub_none (findings_of (and_sides m v (Success b)))
  and_right_says v (Fail u gs) = ended_says (has_typing v && false) _ _ (findings_of v ++ gs) gs (and_false (has_typing v)) (sub_right gs (findings_of v) gs (sub_self gs))

  or_left_says : (v w : Walked) → has_typing v ≡ false → Sub (findings_of v ++ findings_of w) (findings_of (or_sides m v w))
  or_left_says v w e = ended_says (has_typing v && has_typing w) _ _ (findings_of v ++ findings_of w) (findings_of v ++ findings_of w) (and_false_left (has_typing v) (has_typing w) e) (sub_self (findings_of v ++ findings_of w))

  or_right_says : (v w : Walked) → Sub (findings_of w) (findings_of (or_sides m v w))
  or_right_says v (Success b) = sub_none (findings_of (or_sides m v (Success b)))
  or_right_says v (Fail u gs) = ended_says (has_typing v && false) _ _ (findings_of v ++ gs) gs (and_false (has_typing v)) (sub_right gs (findings_of v) gs (sub_self gs))

  module _ (r : Option Loc) where
    and_failed : (v : Walked) (after : List Capability → Walked) (before : Walked) (fs gs : List Finding) → has_typing v ≡ false → Sub fs (findings_of v) → Sub gs (findings_of before) →
        Sub (fs ++ gs) (findings_of (and_walked m r v after before))
    and_failed v after before fs gs e h k =
        subst (λ w. Sub (fs ++ gs) (findings_of (and_sides m v w))) (sym (of_false (has_typing v) e (behind_failed v (λ ds. expect a_boolean r (after ds)) (expect a_boolean r before))))
        (λ f i. and_left_says v (expect a_boolean r before) e f (sub_both fs gs (findings_of v) (findings_of (expect a_boolean r before)) h (λ f j. expect_says a_boolean r before f (k f j)) f i))

    or_failed : (v w : Walked) (fs gs : List Finding) → has_typing v ≡ false → Sub fs (findings_of v) → Sub gs (findings_of w) → Sub (fs ++ gs) (findings_of (or_walked m r v w))
    or_failed v w fs gs e h k =
        subst (λ x. Sub (fs ++ gs) (findings_of (or_sides m v x))) (sym (of_false (has_typing v) e (beside_failed v (expect a_boolean r w))))
        (λ f i. or_left_says v (expect a_boolean r w) e f (sub_both fs gs (findings_of v) (findings_of (expect a_boolean r w)) h (λ f j. expect_says a_boolean r w f (k f j)) f i))

    module _ (l : Option Loc) where
      and_typed : (t : Ty) (cs : List Capability) (x : Typed) (after : List Capability → Walked) (before : Walked) (gs : List Finding) (hs : List Capability → List Finding) →
          Sub gs (findings_of before) → ((ds : List Capability) → Sub (hs ds) (findings_of (after ds))) →
          Sub (and_faults l r t gs (typing_of (after cs)) (hs cs)) (findings_of (and_walked m r (expect a_boolean l (Success (typing t cs x))) after before))
      and_typed false_type cs x after before gs hs h k = sub_none (findings_of (and_walked m r (expect a_boolean l (Success (typing false_type cs x))) after before))
      and_typed true_type cs x after before gs hs h k = λ f i. and_right_says (Success (typing true_type cs x)) (expect a_boolean r (after cs)) f (side_reported r (after cs) (hs cs) (k cs) f i)
      and_typed (primitive BoolType) cs x after before gs hs h k =
          λ f i. and_right_says (Success (typing (primitive BoolType) cs x)) (expect a_boolean r (after cs)) f (side_reported r (after cs) (hs cs) (k cs) f i)
      and_typed (primitive Long) cs x after before gs hs h k =
          and_failed (Fail (untyped x) (unexpected a_boolean l (primitive Long))) after before (unexpected a_boolean l (primitive Long)) gs refl (sub_self (unexpected a_boolean l (primitive Long))) h
      and_typed (primitive String) cs x after before gs hs h k =
          and_failed (Fail (untyped x) (unexpected a_boolean l (primitive String))) after before (unexpected a_boolean l (primitive String)) gs refl (sub_self (unexpected a_boolean l (primitive String))) h
      and_typed t cs x after before gs hs h k =
          and_failed (Fail (untyped x) (unexpected a_boolean l t)) after before (unexpected a_boolean l t) gs refl (sub_self (unexpected a_boolean l t)) h

      or_typed : (t : Ty) (cs : List Capability) (x : Typed) (w : Walked) (gs : List Finding) → Sub gs (findings_of w) →
          Sub (or_faults l r t (typing_of w) gs) (findings_of (or_walked m r (expect a_boolean l (Success (typing t cs x))) w))
      or_typed true_type cs x w gs h = sub_none (findings_of (or_walked m r (expect a_boolean l (Success (typing true_type cs x))) w))
      or_typed false_type cs x w gs h = λ f i. or_right_says (Success (typing false_type cs x)) (expect a_boolean r w) f (side_reported r w gs h f i)
      or_typed (primitive BoolType) cs x w gs h = λ f i. or_right_says (Success (typing (primitive BoolType) cs x)) (expect a_boolean r w) f (side_reported r w gs h f i)
      or_typed (primitive Long) cs x w gs h =
          or_failed (Fail (untyped x) (unexpected a_boolean l (primitive Long))) w (unexpected a_boolean l (primitive Long)) gs refl (sub_self (unexpected a_boolean l (primitive Long))) h
      or_typed (primitive String) cs x w gs h =
          or_failed (Fail (untyped x) (unexpected a_boolean l (primitive String))) w (unexpected a_boolean l (primitive String)) gs refl (sub_self (unexpected a_boolean l (primitive String))) h
      or_typed t cs x w gs h = or_failed (Fail (untyped x) (unexpected a_boolean l t)) w (unexpected a_boolean l t) gs refl (sub_self (unexpected a_boolean l t)) h

      pub and_reported : (v : Walked) (after : List Capability → Walked) (before : Walked) (fs gs : List Finding) (hs : List Capability → List Finding) →
          Sub fs (findings_of v) → Sub gs (findings_of before) → ((ds : List Capability) → Sub (hs ds) (findings_of (after ds))) →
          Sub (at_typed (typing_of v) (fs ++ gs) (λ a. and_faults l r a.type gs (typing_of (after a.caps)) (hs a.caps))) (findings_of (and_walked m r (expect a_boolean l v) after before))
      and_reported (Success a) after before fs gs hs h k i = and_typed a.type a.caps a.tree after before gs hs k i
      and_reported (Fail t is) after before fs gs hs h k i =
          and_failed (expect a_boolean l (Fail t is)) after before fs gs (expect_fails a_boolean l (Fail t is) refl) (λ f j. expect_says a_boolean l (Fail t is) f (h f j)) k

      pub or_reported : (v w : Walked) (fs gs : List Finding) → Sub fs (findings_of v) → Sub gs (findings_of w) →
          Sub (at_typed (typing_of v) (fs ++ gs) (λ a. or_faults l r a.type (typing_of w) gs)) (findings_of (or_walked m r (expect a_boolean l v) w))
      or_reported (Success a) w fs gs h k = or_typed a.type a.caps a.tree w gs k
      or_reported (Fail t is) w fs gs h k =
          or_failed (expect a_boolean l (Fail t is)) w fs gs (expect_fails a_boolean l (Fail t is) refl) (λ f j. expect_says a_boolean l (Fail t is) f (h f j)) k

  -- `if`: where an operand that is reached failed, all is reported
  parts_say : (u v w : Walked) → (has_typing u && (has_typing v && has_typing w)) ≡ false → Sub (findings_of u ++ (findings_of v ++ findings_of w)) (findings_of (if_parts m u v w))
  parts_say u v w e =
      ended_says (has_typing u && (has_typing v && has_typing w)) _ _ (findings_of u ++ (findings_of v ++ (findings_of w ++ branches_found m (test_given u).type (type_given v) (type_given w))))
      (findings_of u ++ (findings_of v ++ findings_of w)) e
      (sub_both (findings_of u) (findings_of v ++ findings_of w) (findings_of u) (findings_of v ++ (findings_of w ++ branches_found m (test_given u).type (type_given v) (type_given w))) (sub_self (findings_of u))
      (sub_both (findings_of v) (findings_of w) (findings_of v) (findings_of w ++ branches_found m (test_given u).type (type_given v) (type_given w)) (sub_self (findings_of v))
      (sub_left (findings_of w) (findings_of w) (branches_found m (test_given u).type (type_given v) (type_given w)) (sub_self (findings_of w)))))

  if_failed : (u : Walked) (after : List Capability → Walked) (before w : Walked) (fs gs hs : List Finding) → has_typing u ≡ false →
      Sub fs (findings_of u) → Sub gs (findings_of before) → Sub hs (findings_of w) → Sub (fs ++ (gs ++ hs)) (findings_of (if_walked m u after before w))
  if_failed u after before w fs gs hs e h k i =
      subst (λ v. Sub (fs ++ (gs ++ hs)) (findings_of (if_parts m u v (reached_besides u w)))) (sym (of_false (has_typing u) e (behind_failed u after before)))
      (subst (λ x. Sub (fs ++ (gs ++ hs)) (findings_of (if_parts m u before x))) (sym (of_false (has_typing u) e (beside_failed u w)))
      (λ f j. parts_say u before w (and_false_left (has_typing u) (has_typing before && has_typing w) e) f
      (sub_both fs (gs ++ hs) (findings_of u) (findings_of before ++ findings_of w) h (sub_both gs hs (findings_of before) (findings_of w) k i) f j)))

  -- one branch alone, and both
  first_reported : (t : Ty) (cs : List Capability) (x : Typed) (v : Walked) (gs : List Finding) → Sub gs (findings_of v) → Sub gs (findings_of (if_parts m (Success (typing t cs x)) v skipped))
  first_reported t cs x (Success a) gs h = λ f i. sub_none _ f (h f i)
  first_reported t cs x (Fail u is) gs h = λ f i. parts_say (Success (typing t cs x)) (Fail u is) skipped refl f (sub_left gs is [] h f i)

  second_reported : (t : Ty) (cs : List Capability) (x : Typed) (w : Walked) (hs : List Finding) → Sub hs (findings_of w) → Sub hs (findings_of (if_parts m (Success (typing t cs x)) skipped w))
  second_reported t cs x (Success a) hs h = λ f i. sub_none _ f (h f i)
  second_reported t cs x (Fail u is) hs h = λ f i. parts_say (Success (typing t cs x)) skipped (Fail u is) refl f (h f i)

  both_reported : (a : Typing) (v w : Walked) (gs hs : List Finding) → Sub gs (findings_of v) → Sub hs (findings_of w) →
      Sub (at_both (typing_of v) (typing_of w) (gs ++ hs) (λ y z. findings_of (if_parts m (Success a) (Success y) (Success z)))) (findings_of (if_parts m (Success a) v w))
  both_reported a (Success y) (Success z) gs hs h k = sub_self (findings_of (if_parts m (Success a) (Success y) (Success z)))
  both_reported a (Success y) (Fail u is) gs hs h k = λ f i. parts_say (Success a) (Success y) (Fail u is) refl f (sub_both gs hs [] is h k f i)
  both_reported a (Fail t js) w gs hs h k = λ f i. parts_say (Success a) (Fail t js) w refl f (sub_both gs hs js (findings_of w) h k f i)

  module _ (l : Option Loc) where
    if_typed : (t : Ty) (cs : List Capability) (x : Typed) (after : List Capability → Walked) (before w : Walked) (gs hs : List Finding) (is : List Capability → List Finding) →
        Sub gs (findings_of before) → Sub hs (findings_of w) → ((ds : List Capability) → Sub (is ds) (findings_of (after ds))) →
        Sub (if_faults m l t (typing t cs x) gs (typing_of (after cs)) (is cs) (typing_of w) hs) (findings_of (if_walked m (expect a_boolean l (Success (typing t cs x))) after before w))
    if_typed true_type cs x after before w gs hs is h k j = first_reported true_type cs x (after cs) (is cs) (j cs)
    if_typed false_type cs x after before w gs hs is h k j = second_reported false_type cs x w hs k
    if_typed (primitive BoolType) cs x after before w gs hs is h k j = both_reported (typing (primitive BoolType) cs x) (after cs) w (is cs) hs (j cs) k
    if_typed (primitive Long) cs x after before w gs hs is h k j =
        if_failed (Fail (untyped x) (unexpected a_boolean l (primitive Long))) after before w (unexpected a_boolean l (primitive Long)) gs hs refl (sub_self (unexpected a_boolean l (primitive Long))) h k
    if_typed (primitive String) cs x after before w gs hs is h k j =
        if_failed (Fail (untyped x) (unexpected a_boolean l (primitive String))) after before w (unexpected a_boolean l (primitive String)) gs hs refl (sub_self (unexpected a_boolean l (primitive String))) h k
    if_typed t cs x after before w gs hs is h k j =
        if_failed (Fail (untyped x) (unexpected a_boolean l t)) after before w (unexpected a_boolean l t) gs hs refl (sub_self (unexpected a_boolean l t)) h k

    pub if_reported : (u : Walked) (after : List Capability → Walked) (before w : Walked) (fs gs hs : List Finding) (is : List Capability → List Finding) →
        Sub fs (findings_of u) → Sub gs (findings_of before) → Sub hs (findings_of w) → ((ds : List Capability) → Sub (is ds) (findings_of (after ds))) →
        Sub (at_typed (typing_of u) (fs ++ (gs ++ hs)) (λ a. if_faults m l a.type a gs (typing_of (after a.caps)) (is a.caps) (typing_of w) hs)) (findings_of (if_walked m (expect a_boolean l u) after before w))
    if_reported (Success a) after before w fs gs hs is h k j i = if_typed a.type a.caps a.tree after before w gs hs is k j i
    if_reported (Fail t js) after before w fs gs hs is h k j i =
        if_failed (expect a_boolean l (Fail t js)) after before w fs gs hs (expect_fails a_boolean l (Fail t js) refl) (λ f d. expect_says a_boolean l (Fail t js) f (h f d)) k j
