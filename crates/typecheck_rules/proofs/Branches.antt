-- `if` agrees with its rule.
use Rattle.std.proofs.Common.{◌≡◌, ◌∙◌, true, false, ◌&&◌, List, Option, Some, None, refl}
use Rattle.std.specs.Option.{option_and_then}
use Rattle.schema_types.specs.declared.kinds.Primitive.TheVariants.{Bool as BoolType, Long, String}
use Rattle.schema_types.specs.Ty.{Ty, true_type, false_type, primitive}
use Rattle.policy_expressions.specs.declared.kinds.Loc.{Loc}
use Rattle.policy_expressions.specs.Tree.{Mark}
use Rattle.typing_spec.specs.Capability.{Capability}
use Rattle.typing_spec.specs.Typing.{Typed, if_typing}
use Rattle.findings.specs.Finding.{Finding}
use Rattle.typecheck_rules.specs.Expected.{a_boolean}
use Rattle.typecheck_rules.specs.Walked.{Walked, Success, Fail, typing_of, has_typing, given_by, expect, ended}
use Rattle.typecheck_rules.specs.Operators.{unless_false, unless_true, if_walked}
use Rattle.typecheck_rules.proofs.Steps.{ended_typing, expect_exact}
use Rattle.typecheck_rules.proofs.Sides.{no_end, if_other}

module _ (m : Mark (Unit {0})) where
  -- the branches of a test that has a typing
  branches : (t : Ty) (cs : List Capability) (x : Typed) (v w : Walked) (failed : Typed) (fs : List Finding) →
      typing_of (ended (has_typing (unless_false t v) && has_typing (unless_true t w)) (if_typing t cs x m (given_by (unless_false t v)) (given_by (unless_true t w))) failed fs) ≡
      if_typing t cs x m (typing_of v) (typing_of w)
  branches true_type cs x (Success a) w failed fs = refl
  branches true_type cs x (Fail t gs) w failed fs = ended_typing false (if_typing true_type cs x m (given_by (Fail t gs)) None) failed fs
  branches false_type cs x v (Success b) failed fs = refl
  branches false_type cs x v (Fail u hs) failed fs = ended_typing false (if_typing false_type cs x m None (given_by (Fail u hs))) failed fs
  branches (primitive BoolType) cs x (Success a) (Success b) failed fs = ended_typing true (if_typing (primitive BoolType) cs x m (Some a) (Some b)) failed fs
  branches (primitive BoolType) cs x (Success a) (Fail u hs) failed fs = ended_typing false (if_typing (primitive BoolType) cs x m (Some a) (given_by (Fail u hs))) failed fs
  branches (primitive BoolType) cs x (Fail t gs) w failed fs = ended_typing false (if_typing (primitive BoolType) cs x m (given_by (Fail t gs)) (given_by w)) failed fs
  branches (primitive Long) cs x v w failed fs = no_end (has_typing v && has_typing w) failed fs
  branches (primitive String) cs x v w failed fs = no_end (has_typing v && has_typing w) failed fs
  branches _ cs x v w failed fs = no_end (has_typing v && has_typing w) failed fs

  of_test : (u : Walked) (after : List Capability → Walked) (before w : Walked) →
      typing_of (if_walked m u after before w) ≡ option_and_then (λ a. if_typing a.type a.caps a.tree m (typing_of (after a.caps)) (typing_of w)) (typing_of u)
  of_test (Success a) after before w = branches a.type a.caps a.tree (after a.caps) w _ _
  of_test (Fail t fs) after before w = ended_typing false _ _ _

  pub if_exact : (l : Option Loc) (u : Walked) (after : List Capability → Walked) (before w : Walked) →
      typing_of (if_walked m (expect a_boolean l u) after before w) ≡ option_and_then (λ a. if_typing a.type a.caps a.tree m (typing_of (after a.caps)) (typing_of w)) (typing_of u)
  if_exact l u after before w =
      of_test (expect a_boolean l u) after before w ∙
      expect_exact a_boolean l (λ a. if_typing a.type a.caps a.tree m (typing_of (after a.caps)) (typing_of w)) (λ a. if_other a.type a.caps a.tree m (typing_of (after a.caps)) (typing_of w)) u
