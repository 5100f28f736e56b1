-- The check of a policy's condition, by the checks of its scope and of its body.
-- The plan. A condition is `scope && body`, and its check that of a walk over this `&&`. First what a walk comes to where
-- both sides make nothing known or what is known before does not matter, then what it comes to as a boolean; so behind
-- each type of a scope (True, Bool, False, none) the check of the whole is reported from the two (`policy_split`), and last
-- the same of the parts as code has them (`policy_reported`).
use Rattle.std.specs.Prelude.{⊤, cond, if◌then◌else◌, nat_lt, option_map}
use Rattle.std.proofs.Common.{◌≡◌, ℕ, Bool, true, false, ◌&&◌, List, [], ◌++◌, Option, Some, None, IfSome, refl, sym, ap, subst, ◌∙◌}
use Rattle.std.specs.Option.{option_and_then}
use Rattle.schema_types.specs.declared.kinds.Primitive.TheVariants.{Bool as BoolType}
use Rattle.schema_types.specs.Ty.{Ty, true_type, false_type, primitive}
use Rattle.schema_core.specs.EnvData.{EnvData}
use Rattle.schema_core.specs.Schema.{SchemaData}
use Rattle.policy_expressions.specs.declared.kinds.BinaryOp.{BinaryOp}
use Rattle.policy_expressions.specs.declared.kinds.BinaryOp.TheVariants.{Eq as IsEqual, In as IsIn}
use Rattle.policy_expressions.specs.declared.kinds.Literal.TheVariants as literal
use Rattle.policy_expressions.specs.declared.kinds.Loc.{Loc}
use Rattle.policy_expressions.specs.declared.kinds.SlotId.{SlotId}
use Rattle.policy_expressions.specs.declared.kinds.SlotId.TheVariants.{Principal, Resource}
use Rattle.policy_expressions.specs.declared.kinds.Var.TheVariants as variable
use Rattle.policy_expressions.specs.Plain.{Plain, unmarked}
use Rattle.policy_expressions.specs.Tree.{lit, var, conj, binary, set, is_type, depth_of, mark_of, Mark}
use Rattle.typing_spec.specs.Capability.{Capability, has_cap}
use Rattle.typing_spec.specs.Operands.{is_boolean}
use Rattle.typing_spec.specs.Typing.{Typed, Typing, typing, at, unreached, and_caps, and_typing, binary_caps, tag_known}
use Rattle.typing_spec.specs.Environment.{type_of_literal}
use Rattle.typing_spec.specs.Rules as rule
use Rattle.typing_spec.specs.Rules.{and_type}
use Rattle.typing_spec.specs.Signatures.{bool_type}
use Rattle.findings.specs.Finding.{Finding}
use Rattle.policy_set.specs.Condition.{variable_of, id_literal, referred, of_type, compared, scope_part, literals, action_part, scope_of, IsPolicy}
use Rattle.policy_set.specs.Data.{PolicyData}
use Rattle.policy_set.specs.declared.constraint.ActionConstraint.{ActionConstraint}
use Rattle.policy_set.specs.declared.constraint.ActionConstraint.TheVariants as asked
use Rattle.policy_set.specs.declared.constraint.PrincipalOrResourceConstraint.{PrincipalOrResourceConstraint}
use Rattle.policy_set.specs.declared.constraint.PrincipalOrResourceConstraint.TheVariants.{Any, Eq, In, Is, IsIn as IsWithin}
use Rattle.typecheck_rules.specs.Check.{Check, Success as Passes, Irrelevant, TooDeep, check_of, check_walked, checked, condition_walked}
use Rattle.typecheck_rules.specs.Expected.{Expected, a_boolean, an_entity, test_help, left_of as expected_left, right_of as expected_right}
use Rattle.typecheck_rules.specs.Operators.{place, type_given, leaf_walked, is_typing, binary_given, binary_own, binary_typing, binary_fitting, and_sides, reached_after, unless_false}
use Rattle.typecheck_rules.specs.Walk.{walked}
use Rattle.typecheck_rules.specs.Walked.{Walked, Success, Fail, findings_of, tree_of, has_typing, given_by, lends, untyped, unexpected, expect_given, expect, expect_if, ended, one_walked, both, two_walked}
use Rattle.policy_validate.specs.Checks.{condition_in}
use Rattle.manifest_computation.specs.Gathered.{part_in}

-- a typing that makes nothing known
abbrev IsQuiet : Walked → Type 0
IsQuiet (Success a) = a.caps ≡ []
IsQuiet (Fail t fs) = ⊤

abbrev IsQuietTyping : Typing → Type 0
IsQuietTyping a = a.caps ≡ []

given_quiet : (x : Expected) (l : Option Loc) (o : Option Ty) (t : Typed) (fs : List Finding) → IsQuiet (expect_given x l o t fs)
given_quiet x l None t fs = tt
given_quiet x l (Some u) t fs = by (x.fits u)
  where
    by : (b : Bool) → IsQuiet (cond b (Fail t fs) (Fail (untyped t) (fs ++ unexpected x l u)))
    by true = tt
    by false = tt

expect_quiet : (x : Expected) (l : Option Loc) (w : Walked) → IsQuiet w → IsQuiet (expect x l w)
expect_quiet x l (Success a) h = by (x.fits a.type)
  where
    by : (b : Bool) → IsQuiet (cond b (Success a) (Fail (untyped a.tree) (unexpected x l a.type)))
    by true = h
    by false = tt
expect_quiet x l (Fail t fs) h = given_quiet x l (mark_of t).note t fs

ended_quiet : (b : Bool) (o : Option Typing) (t : Typed) (fs : List Finding) → IfSome o IsQuietTyping → IsQuiet (ended b o t fs)
ended_quiet true (Some a) t fs h = h
ended_quiet false (Some a) t fs h = tt
ended_quiet b None t fs h = tt

failed_quiet : (o : Option Typing) (t : Typed) (fs : List Finding) → IsQuiet (ended false o t fs)
failed_quiet (Some a) t fs = tt
failed_quiet None t fs = tt

leaf_quiet : (part : Mark (Option Ty) → Typed) (m : Mark (Unit {0})) (o : Option Ty) → IsQuiet (leaf_walked part m o)
leaf_quiet part m (Some t) = refl
leaf_quiet part m None = tt

mapped_quiet : (o : Option Ty) (cs : List Capability) (f : Ty → Typed) → cs ≡ [] → IfSome (option_map (λ t. typing t cs (f t)) o) IsQuietTyping
mapped_quiet None cs f h = tt
mapped_quiet (Some t) cs f h = h

both_quiet : (rule : Typing → Typing → Option Typing) → ((a b : Typing) → IfSome (rule a b) IsQuietTyping) → (o p : Option Typing) → IfSome (both rule o p) IsQuietTyping
both_quiet rule h None p = tt
both_quiet rule h (Some a) None = tt
both_quiet rule h (Some a) (Some b) = h a b

then_quiet : (rule : Typing → Option Typing) → ((a : Typing) → IfSome (rule a) IsQuietTyping) → (o : Option Typing) → IfSome (option_and_then rule o) IsQuietTyping
then_quiet rule h None = tt
then_quiet rule h (Some a) = h a

one_quiet : (rule : Typing → Option Typing) (t : Typed) (fs : List Finding) (v : Walked) → ((a : Typing) → IfSome (rule a) IsQuietTyping) → IsQuiet (one_walked rule t fs v)
one_quiet rule t fs v h = ended_quiet (has_typing v) (option_and_then rule (given_by v)) t (findings_of v ++ fs) (then_quiet rule h (given_by v))

two_quiet : (rule : Typing → Typing → Option Typing) (t : Typed) (fs : List Finding) (v w : Walked) → ((a b : Typing) → IfSome (rule a b) IsQuietTyping) → IsQuiet (two_walked rule t fs v w)
two_quiet rule t fs v w h =
    ended_quiet (has_typing v && has_typing w) (both rule (given_by v) (given_by w)) t (findings_of v ++ (findings_of w ++ fs)) (both_quiet rule h (given_by v) (given_by w))

-- `&&`: its typing, its expression where it has none, and what is found of its sides
abbrev sides_typing : Mark (Unit {0}) → Walked → Walked → Option Typing
sides_typing m v w = option_and_then (λ a. and_typing a.type a.caps a.tree m (given_by w)) (given_by v)

abbrev sides_tree : Mark (Unit {0}) → Walked → Walked → Typed
sides_tree m v w = conj (tree_of v) (tree_of w) (lends (Some bool_type) m)

abbrev sides_found : Walked → Walked → List Finding
sides_found v w = findings_of v ++ findings_of w

-- `&&` of sides that make nothing known
no_more : (u : Ty) → and_caps u [] [] ≡ []
no_more false_type = refl
no_more u = refl

and_quiet : (t : Ty) (x : Typed) (m : Mark (Unit {0})) (b : Typing) → IsQuietTyping b → IfSome (and_typing t [] x m (Some b)) IsQuietTyping
and_quiet false_type x m b h = refl
and_quiet t x m b h = mapped_quiet (and_type t b.type) (and_caps b.type [] b.caps) (λ w. conj x b.tree (at w m)) (ap (and_caps b.type []) h ∙ no_more b.type)

sides_quiet : (m : Mark (Unit {0})) (v w : Walked) → IsQuiet v → IsQuiet w → IsQuiet (and_sides m v w)
sides_quiet m (Fail t fs) w h k = failed_quiet (sides_typing m (Fail t fs) w) (sides_tree m (Fail t fs) w) (sides_found (Fail t fs) w)
sides_quiet m (Success a) (Fail t fs) h k = failed_quiet (sides_typing m (Success a) (Fail t fs)) (sides_tree m (Success a) (Fail t fs)) (sides_found (Success a) (Fail t fs))
sides_quiet m (Success a) (Success b) h k =
    ended_quiet true (sides_typing m (Success a) (Success b)) (sides_tree m (Success a) (Success b)) (sides_found (Success a) (Success b))
    (subst (λ cs. IfSome (and_typing a.type cs a.tree m (Some b)) IsQuietTyping) (sym h) (and_quiet a.type a.tree m b k))

unless_quiet : (t : Ty) (w : Walked) → IsQuiet w → IsQuiet (unless_false t w)
unless_quiet false_type w h = refl
unless_quiet t w h = h

after_quiet : (v : Walked) (after : List Capability → Walked) (before : Walked) → ((ds : List Capability) → IsQuiet (after ds)) → IsQuiet before → IsQuiet (reached_after v after before)
after_quiet (Success a) after before h k = unless_quiet a.type (after a.caps) (h a.caps)
after_quiet (Fail t fs) after before h k = k

module _ (schema : SchemaData) (env : EnvData) where
  -- whatever is known before
  abbrev MakesNothingKnown : Plain → Type 0
  MakesNothingKnown x = (cs : List Capability) → IsQuiet (walked schema env cs x)

  conj_quiet : (x y : Plain) (m : Mark (Unit {0})) → MakesNothingKnown x → MakesNothingKnown y → MakesNothingKnown (conj x y m)
  conj_quiet x y m h k cs =
      sides_quiet m v (reached_after v (λ ds. expect a_boolean (place y) (walked schema env (cs ++ ds) y)) (expect a_boolean (place y) (walked schema env cs y))) left
      (after_quiet v (λ ds. expect a_boolean (place y) (walked schema env (cs ++ ds) y)) (expect a_boolean (place y) (walked schema env cs y))
      (λ ds. expect_quiet a_boolean (place y) (walked schema env (cs ++ ds) y) (k (cs ++ ds))) (expect_quiet a_boolean (place y) (walked schema env cs y) (k cs)))
    where
      v : Walked
      v = expect a_boolean (place x) (walked schema env cs x)

      left : IsQuiet v
      left = expect_quiet a_boolean (place x) (walked schema env cs x) (h cs)

  fitting_quiet : (o : BinaryOp) → ((x y : Plain) → binary_caps o x y ≡ []) → (known : Bool) (x y : Plain) (m : Mark (Unit {0})) (v w : Walked) → IsQuiet (binary_fitting schema env o known x y m v w)
  fitting_quiet o h known x y m v w =
      two_quiet (binary_typing schema env o known x y m) (binary o (tree_of v) (tree_of w) (lends (binary_given schema env o x y (type_given v)) m)) (binary_own schema env o known x y m (type_given v) (type_given w)) v w
      (λ a b. mapped_quiet (rule.binary_type schema env o known x y a.type b.type) (binary_caps o x y) (λ t. binary o a.tree b.tree (at t m)) (h x y))

  compared_quiet : (o : BinaryOp) → ((x y : Plain) → binary_caps o x y ≡ []) → (x y : Plain) → MakesNothingKnown (binary o x y unmarked)
  compared_quiet o h x y cs =
      fitting_quiet o h (has_cap cs (tag_known x y)) x y unmarked (expect_if (expected_left o) (place x) (walked schema env cs x)) (expect_if (expected_right o) (place y) (walked schema env cs y))

  anything_quiet : MakesNothingKnown (lit (literal.Bool true) unmarked)
  anything_quiet cs = leaf_quiet (lit (literal.Bool true)) unmarked (type_of_literal schema (literal.Bool true))

  type_quiet : (i : SlotId) (n : List ℕ) → MakesNothingKnown (of_type i n)
  type_quiet i n cs = one_quiet (is_typing n unmarked) (is_type (tree_of v) n (lends (Some bool_type) unmarked)) [] v (λ a. mapped_quiet (rule.is_type a.type n) [] (λ t. is_type a.tree n (at t unmarked)) refl)
    where
      v : Walked
      v = expect (an_entity test_help) None (walked schema env cs (var (variable_of i) unmarked))

  side_quiet : (i : SlotId) (c : PrincipalOrResourceConstraint) → MakesNothingKnown (scope_part i c)
  side_quiet i Any = anything_quiet
  side_quiet i (Eq r) = compared_quiet IsEqual (λ x y. refl) (var (variable_of i) unmarked) (referred i r)
  side_quiet i (In r) = compared_quiet IsIn (λ x y. refl) (var (variable_of i) unmarked) (referred i r)
  side_quiet i (Is n) = type_quiet i n
  side_quiet i (IsWithin n r) = conj_quiet (of_type i n) (compared IsIn i r) unmarked (type_quiet i n) (compared_quiet IsIn (λ x y. refl) (var (variable_of i) unmarked) (referred i r))

  action_quiet : (c : ActionConstraint) → MakesNothingKnown (action_part c)
  action_quiet asked.Any = anything_quiet
  action_quiet (asked.Eq u) = compared_quiet IsEqual (λ x y. refl) (var variable.Action unmarked) (id_literal u)
  action_quiet (asked.In us) = compared_quiet IsIn (λ x y. refl) (var variable.Action unmarked) (set (literals us) unmarked)

  scope_quiet : (p : PrincipalOrResourceConstraint) (c : ActionConstraint) (r : PrincipalOrResourceConstraint) → MakesNothingKnown (scope_of p c r)
  scope_quiet p c r =
      conj_quiet (conj (scope_part Principal p) (action_part c) unmarked) (scope_part Resource r) unmarked
      (conj_quiet (scope_part Principal p) (action_part c) unmarked (side_quiet Principal p) (action_quiet c)) (side_quiet Resource r)

-- what a walk comes to that had to be a boolean
abbrev IsTest : Walked → Type 0
IsTest (Success a) = is_boolean a.type ≡ true
IsTest (Fail t fs) = ⊤

given_test : (l : Option Loc) (o : Option Ty) (t : Typed) (fs : List Finding) → IsTest (expect_given a_boolean l o t fs)
given_test l None t fs = tt
given_test l (Some u) t fs = by (is_boolean u)
  where
    by : (b : Bool) → IsTest (cond b (Fail t fs) (Fail (untyped t) (fs ++ unexpected a_boolean l u)))
    by true = tt
    by false = tt

expected_test : (l : Option Loc) (w : Walked) → IsTest (expect a_boolean l w)
expected_test l (Success a) = by (is_boolean a.type) refl
  where
    by : (b : Bool) → is_boolean a.type ≡ b → IsTest (cond b (Success a) (Fail (untyped a.tree) (unexpected a_boolean l a.type)))
    by true h = h
    by false h = tt
expected_test l (Fail t fs) = given_test l (mark_of t).note t fs

-- behind a scope that may be met
abbrev pub IsBehind : Typed → Option Typed → Option Typed → Type 0
IsBehind s None o = o ≡ None
IsBehind s (Some b) o = (n : Mark (Option Ty)) × (o ≡ Some (conj s b n))

-- what is left of a condition, by the check of its scope and what is left of its body
abbrev pub IsSplit : Check → Option Typed → Option Typed → Type 0
IsSplit (Passes s) b o = IsBehind s b o
IsSplit (Irrelevant s) b o = (n : Mark (Option Ty)) × (o ≡ Some (conj s unreached n))
IsSplit c b o = o ≡ None

module _ (l : Option Loc) (m : Mark (Unit {0})) where
  abbrev left_of : Walked → Option Typed
  left_of w = condition_in (check_walked (expect a_boolean l w))

  failed : (o : Option Typing) (t : Typed) (fs : List Finding) → left_of (ended false o t fs) ≡ None
  failed (Some a) t fs = fails a.tree fs
    where
      borrowed : (o : Option Ty) (t : Typed) (fs : List Finding) → condition_in (check_walked (expect_given a_boolean l o t fs)) ≡ None
      borrowed None t fs = refl
      borrowed (Some u) t fs = by (is_boolean u)
        where
          by : (b : Bool) → condition_in (check_walked (cond b (Fail t fs) (Fail (untyped t) (fs ++ unexpected a_boolean l u)))) ≡ None
          by true = refl
          by false = refl

      fails : (t : Typed) (fs : List Finding) → left_of (Fail t fs) ≡ None
      fails t fs = borrowed (mark_of t).note t fs
  failed None t fs = borrowed (mark_of t).note
    where
      borrowed : (o : Option Ty) → condition_in (check_walked (expect_given a_boolean l o t fs)) ≡ None
      borrowed None = refl
      borrowed (Some u) = by (is_boolean u)
        where
          by : (b : Bool) → condition_in (check_walked (cond b (Fail t fs) (Fail (untyped t) (fs ++ unexpected a_boolean l u)))) ≡ None
          by true = refl
          by false = refl

  -- behind a scope of the type True, and of the type Bool
  abbrev behind : Ty → Typed → Walked → Option Typed
  behind t x w = left_of (and_sides m (Success (typing t [] x)) w)

  after_true : (x : Typed) (w : Walked) → IsTest w → IsBehind x (condition_in (check_walked w)) (behind true_type x w)
  after_true x (Fail t fs) h =
      failed (sides_typing m (Success (typing true_type [] x)) (Fail t fs)) (sides_tree m (Success (typing true_type [] x)) (Fail t fs)) (sides_found (Success (typing true_type [] x)) (Fail t fs))
  after_true x (Success b) h = by b.type b.caps b.tree h
    where
      by : (u : Ty) (cs : List Capability) (y : Typed) → is_boolean u ≡ true → IsBehind x (condition_in (check_of u y [])) (behind true_type x (Success (typing u cs y)))
      by true_type cs y h = (at true_type m, refl)
      by false_type cs y h = (at false_type m, refl)
      by (primitive BoolType) cs y h = (at (primitive BoolType) m, refl)
      by u cs y h = absurd (cc h)

  after_bool : (x : Typed) (w : Walked) → IsTest w → IsBehind x (condition_in (check_walked w)) (behind (primitive BoolType) x w)
  after_bool x (Fail t fs) h =
      failed (sides_typing m (Success (typing (primitive BoolType) [] x)) (Fail t fs)) (sides_tree m (Success (typing (primitive BoolType) [] x)) (Fail t fs)) (sides_found (Success (typing (primitive BoolType) [] x)) (Fail t fs))
  after_bool x (Success b) h = by b.type b.caps b.tree h
    where
      by : (u : Ty) (cs : List Capability) (y : Typed) → is_boolean u ≡ true → IsBehind x (condition_in (check_of u y [])) (behind (primitive BoolType) x (Success (typing u cs y)))
      by true_type cs y h = (at (primitive BoolType) m, refl)
      by false_type cs y h = (at false_type m, refl)
      by (primitive BoolType) cs y h = (at (primitive BoolType) m, refl)
      by u cs y h = absurd (cc h)

  split : (v : Walked) → IsTest v → IsQuiet v → (after : List Capability → Walked) (w : Walked) → after [] ≡ w → IsTest w →
      IsSplit (check_walked v) (condition_in (check_walked w)) (left_of (and_sides m v (reached_after v after w)))
  split (Fail t fs) h q after w same k = failed (sides_typing m (Fail t fs) w) (sides_tree m (Fail t fs) w) (sides_found (Fail t fs) w)
  split (Success a) h q after w same k =
      subst (λ cs. IsSplit (check_of a.type a.tree []) (condition_in (check_walked w)) (left_of (and_sides m (Success (typing a.type cs a.tree)) (unless_false a.type (after cs))))) (sym q)
      (subst (λ z. IsSplit (check_of a.type a.tree []) (condition_in (check_walked w)) (left_of (and_sides m (Success (typing a.type [] a.tree)) (unless_false a.type z)))) (sym same) (by a.type a.tree h))
    where
      by : (t : Ty) (x : Typed) → is_boolean t ≡ true → IsSplit (check_of t x []) (condition_in (check_walked w)) (left_of (and_sides m (Success (typing t [] x)) (unless_false t w)))
      by true_type x h = after_true x w k
      by false_type x h = (at false_type m, refl)
      by (primitive BoolType) x h = after_bool x w k
      by t x h = absurd (cc h)

module _ (schema : SchemaData) (env : EnvData) where
  -- what the check of a policy's condition leaves
  pub policy_split : (p : PolicyData) → IsPolicy p → nat_lt 200 (depth_of p.condition) ≡ false →
      IsSplit (check_walked (condition_walked schema env (scope_of p.principal p.action p.resource))) (part_in schema env p.body) (condition_in (checked schema env p.condition))
  policy_split p is depth = subst (IsSplit (check_walked (condition_walked schema env x)) (part_in schema env p.body)) (sym same) whole
    where
      x : Plain
      x = scope_of p.principal p.action p.resource

      same : condition_in (checked schema env p.condition) ≡ condition_in (check_walked (condition_walked schema env (conj x p.body unmarked)))
      same = ap (λ b. condition_in (if b then TooDeep else check_walked (condition_walked schema env p.condition))) depth
          ∙ ap (λ e. condition_in (check_walked (condition_walked schema env e))) is.condition

      whole : IsSplit (check_walked (condition_walked schema env x)) (part_in schema env p.body) (condition_in (check_walked (condition_walked schema env (conj x p.body unmarked))))
      whole = split None unmarked (condition_walked schema env x) (expected_test (place x) (walked schema env [] x))
          (expect_quiet a_boolean (place x) (walked schema env [] x) (scope_quiet schema env p.principal p.action p.resource []))
          (λ ds. expect a_boolean (place p.body) (walked schema env ([] ++ ds) p.body)) (condition_walked schema env p.body) refl (expected_test (place p.body) (walked schema env [] p.body))

  -- by its parts as code has them
  pub policy_reported : (p : PolicyData) → IsPolicy p → (e : Plain) → e ≡ p.condition → nat_lt 200 (depth_of e) ≡ false → (x : Plain) → x ≡ scope_of p.principal p.action p.resource →
      IsSplit (check_walked (condition_walked schema env x)) (part_in schema env p.body) (condition_in (checked schema env p.condition))
  policy_reported p is e whole depth x scope =
      subst (λ z. IsSplit (check_walked (condition_walked schema env z)) (part_in schema env p.body) (condition_in (checked schema env p.condition))) (sym scope)
      (policy_split p is (subst (λ z. nat_lt 200 (depth_of z) ≡ false) whole depth))
