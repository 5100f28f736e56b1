-- The check of a condition, by its scope and the walk of its body.
use Rattle.std.proofs.Common.{◌≡◌, Bool, true, false, List, [], ◌++◌, Option, Some, None, refl, sym, ◌∙◌, true≢false}
use Rattle.std.specs.Prelude.{⊤, cond, if◌then◌else◌, nat_lt}
use Rattle.schema_types.specs.declared.kinds.Primitive.TheVariants.{Bool as BoolType, Long, String}
use Rattle.schema_types.specs.Ty.{Ty, never, true_type, false_type, primitive, any_set, set_of, record_of, any_entity, entity, action, extension}
use Rattle.schema_core.specs.EnvData.{EnvData}
use Rattle.schema_core.specs.Schema.{SchemaData}
use Rattle.policy_expressions.specs.declared.kinds.Loc.{Loc}
use Rattle.policy_expressions.specs.Tree.{conj, depth_of, mark_of}
use Rattle.policy_expressions.specs.Plain.{Plain, unmarked}
use Rattle.typing_spec.specs.Capability.{Capability}
use Rattle.findings.specs.Finding.{Finding}
use Rattle.typing_spec.specs.Operands.{is_boolean}
use Rattle.typing_spec.specs.Signatures.{bool_type}
use Rattle.typing_spec.specs.Typing.{Typed, Typing, typing, and_typing}
use Rattle.policy_set.specs.declared.constraint.PrincipalOrResourceConstraint.{PrincipalOrResourceConstraint}
use Rattle.policy_set.specs.declared.constraint.ActionConstraint.{ActionConstraint}
use Rattle.policy_set.specs.Condition.{scope_of, condition_of}
use Rattle.link_spec.specs.Linked.{linked_env}
use Rattle.typecheck_rules.specs.Expected.{a_boolean}
use Rattle.typecheck_rules.specs.Check.{TooDeep, Check, Fail as CheckFail, check_walked, condition_walked}
use Rattle.typecheck_rules.specs.Walked.{Walked, Success, Fail, expect, expect_given, untyped, unexpected, given_by, lends, ended}
use Rattle.typecheck_rules.specs.Operators.{place, and_sides, and_walked}
use Rattle.typecheck_rules.specs.Walk.{walked}
use Rattle.link_spec.specs.Parts.{Part, part, part_typing, whole_part, verdict, is_met_in}
use Rattle.link_spec.specs.Behind.{behind, check_behind}
use Rattle.link_spec.specs.ScopeLaws.{ConditionsFollowScopes}
use Rattle.link_spec.proofs.Whole.{whole_comes, scope_met}

-- what a walk comes to that had to be a boolean
abbrev IsTest : Walked → Type 0
IsTest (Success b) = is_boolean b.type ≡ true
IsTest (Fail t fs) = ⊤

expected_test : (l : Option Loc) (w : Walked) → IsTest (expect a_boolean l w)
expected_test l (Success b) = by (is_boolean b.type) refl
  where
    by : (c : Bool) → is_boolean b.type ≡ c → IsTest (cond c (Success b) (Fail (untyped b.tree) (unexpected a_boolean l b.type)))
    by true h = h
    by false h = tt
expected_test l (Fail t fs) = by (mark_of t).note
  where
    by : (n : Option Ty) → IsTest (expect_given a_boolean l n t fs)
    by None = tt
    by (Some u) = last (is_boolean u)
      where
        last : (c : Bool) → IsTest (cond c (Fail t fs) (Fail (untyped t) (fs ++ unexpected a_boolean l u)))
        last true = tt
        last false = tt

-- `&&` behind a scope that is met
module _ (l : Option Loc) (x : Typed) where
  abbrev whole : Bool → Walked → Check
  whole s w = check_walked (expect a_boolean l (and_sides unmarked (Success (part_typing (part true s x))) w))

  typed_right : (s : Bool) (t : Ty) (cs : List Capability) (y : Typed) → is_boolean t ≡ true → whole s (Success (typing t cs y)) ≡ behind (part true s x) (Success (typing t cs y))
  typed_right true true_type cs y h = refl
  typed_right true false_type cs y h = refl
  typed_right true (primitive BoolType) cs y h = refl
  typed_right false true_type cs y h = refl
  typed_right false false_type cs y h = refl
  typed_right false (primitive BoolType) cs y h = refl
  typed_right s t cs y h = absurd (true≢false (sym h))

  -- what is found of the right side is what is found of the whole
  failed_by : (s : Bool) (o : Option Typing) (t : Typed) (fs : List Finding) →
      check_walked (expect a_boolean l (ended false (and_typing (verdict true s) [] x unmarked o) (conj x t (lends (Some bool_type) unmarked)) fs)) ≡ CheckFail fs
  failed_by true None t fs = refl
  failed_by false None t fs = refl
  failed_by s (Some y) t fs = by s y.type
    where
      by : (s : Bool) (u : Ty) → check_walked (expect a_boolean l (ended false (and_typing (verdict true s) [] x unmarked (Some (typing u y.caps y.tree))) (conj x t (lends (Some bool_type) unmarked)) fs)) ≡ CheckFail fs
      by true true_type = refl
      by true false_type = refl
      by true (primitive BoolType) = refl
      by true (primitive Long) = refl
      by true (primitive String) = refl
      by true never = refl
      by true any_set = refl
      by true (set_of u) = refl
      by true (record_of xs o) = refl
      by true any_entity = refl
      by true (entity ns) = refl
      by true (action n xs) = refl
      by true (extension n) = refl
      by false true_type = refl
      by false false_type = refl
      by false (primitive BoolType) = refl
      by false (primitive Long) = refl
      by false (primitive String) = refl
      by false never = refl
      by false any_set = refl
      by false (set_of u) = refl
      by false (record_of xs o) = refl
      by false any_entity = refl
      by false (entity ns) = refl
      by false (action n xs) = refl
      by false (extension n) = refl

  right_ends : (s : Bool) (w : Walked) → IsTest w → whole s w ≡ behind (part true s x) w
  right_ends s (Success b) h = typed_right s b.type b.caps b.tree h
  right_ends true (Fail t fs) h = failed_by true (given_by (Fail t fs)) t fs
  right_ends false (Fail t fs) h = failed_by false (given_by (Fail t fs)) t fs

module _ (schema : SchemaData) (env : EnvData) (scope body : Plain) where
  abbrev checked_with : Walked → Check
  checked_with v = check_walked (expect a_boolean None (and_walked unmarked (place body) (expect a_boolean (place scope) v) (λ ds. walked schema env ([] ++ ds) body) (walked schema env [] body)))

  by_scope : (m s : Bool) (x : Typed) → checked_with (Success (part_typing (part m s x))) ≡ check_behind (part m s x) m (condition_walked schema env body)
  by_scope false s x = refl
  by_scope true true x = right_ends None x true (condition_walked schema env body) (expected_test (place body) (walked schema env [] body))
  by_scope true false x = right_ends None x false (condition_walked schema env body) (expected_test (place body) (walked schema env [] body))

pub conditions_follow : ConditionsFollowScopes
conditions_follow schema ok a e is t plain s s' f g =
    (λ j. if nat_lt 200 (depth_of (condition_of t)) then TooDeep else checked_with schema env (scope_of t.principal t.action t.resource) t.body (whole_comes schema ok a e is t.principal t.action t.resource plain s s' f g [] j)) ∙
    (λ j. if nat_lt 200 (depth_of (condition_of t)) then TooDeep else by_scope schema env (scope_of t.principal t.action t.resource) t.body p.meets p.sure p.tree j) ∙
    (λ j. if nat_lt 200 (depth_of (condition_of t)) then TooDeep else check_behind p (met t.principal t.action t.resource j) (condition_walked schema env t.body))
  where
    env : EnvData
    env = linked_env a e s s'

    p : Part
    p = whole_part schema a e s s' t.principal t.action t.resource

    met : (p' : PrincipalOrResourceConstraint) (c : ActionConstraint) (r : PrincipalOrResourceConstraint) → (whole_part schema a e s s' p' c r).meets ≡ is_met_in schema a e p' c r
    met = scope_met schema a e s s'
