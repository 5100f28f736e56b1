-- Worked cases: what is found, in which order, and how it reads.
use Rattle.std.proofs.Common.{◌≡◌, ℕ, true, false, [], ◌∷◌, Option, Some, None, codes, pos, refl}
use Rattle.policy_values.specs.declared.entity_uid.EntityUID.{EntityUID}
use Rattle.policy_expressions.specs.declared.kinds.Loc.{Loc}
use Rattle.policy_expressions.specs.declared.kinds.Literal.TheVariants as literal
use Rattle.policy_expressions.specs.declared.kinds.Var.TheVariants.{Principal, Context}
use Rattle.policy_expressions.specs.declared.kinds.UnaryOp.TheVariants.{Not, IsEmpty}
use Rattle.policy_expressions.specs.declared.kinds.BinaryOp.TheVariants.{Less, Add, GetTag}
use Rattle.policy_expressions.specs.Functions.{functions}
use Rattle.policy_expressions.specs.Tree.{lit, var, ite, conj, unary, binary, attr, call, set, no_trees, tree, Mark}
use Rattle.schema_types.specs.declared.kinds.LubHelp.TheVariants as hint
use Rattle.schema_types.specs.declared.kinds.LubHelp.TheVariants.{RecordWidth}
use Rattle.schema_types.specs.Ty.{Ty, true_type, false_type, entity}
use Rattle.schema_core.specs.Schema.{SchemaData}
use Rattle.schema_core.specs.EnvData.{EnvData, LinkedEnvironment, declared_action}
use Rattle.policy_expressions.specs.Plain.{Plain}
use Rattle.typing_spec.specs.Signatures.{long_type, string_type, datetime_type, duration_type}
use Rattle.typing_spec.specs.Typing.{Typed, typing, at, unreached}
use Rattle.findings.specs.declared.helps.UnexpectedTypeHelp.TheVariants.{ConcatenationNotSupported}
use Rattle.findings.specs.declared.helps.LubContext.TheVariants.{Conditional}
use Rattle.findings.specs.Finding.{Finding, Kind, UnexpectedType, IncompatibleTypes, UnsafeOptionalAttributeAccess, UnsafeTagAccess, WrongNumberArguments, EmptySetForbidden}
use Rattle.findings.specs.declared.access.AttributeAccess.TheVariants as access
use Rattle.findings.specs.Access.{attribute_access}
use Rattle.typecheck_rules.specs.Walked.{Success, findings_of}
use Rattle.typecheck_rules.specs.Walk.{walked}
use Rattle.findings.specs.Texts.{message, help, access_text, guard_text}

abbrev place : ℕ → Option Loc
place n = Some (record { start = n; end = n })

abbrev mark : ℕ → Mark (Unit {0})
mark n = record { note = tt; loc = place n }

abbrev truth : ℕ → Plain
truth n = lit (literal.Bool true) (mark n)

abbrev untruth : ℕ → Plain
untruth n = lit (literal.Bool false) (mark n)

abbrev one : ℕ → Plain
one n = lit (literal.Long (pos 1)) (mark n)

abbrev text : ℕ → Plain
text n = lit (literal.String (codes "a")) (mark n)

abbrev empty : ℕ → ℕ → Plain
empty m n = unary IsEmpty (set no_trees (mark m)) (mark n)

abbrev found_at : ℕ → Kind → Finding
found_at n k = record { kind = k; loc = place n }

module _ (schema : SchemaData) (env : EnvData) where
  -- true < 1
  less : findings_of (walked schema env [] (binary Less (truth 1) (one 2) (mark 3))) ≡ found_at 1 (UnexpectedType (long_type ∷ []) true_type None) ∷ []
  less = refl

  -- 'a' < true
  less_none : findings_of (walked schema env [] (binary Less (text 1) (truth 2) (mark 3))) ≡
      found_at 1 (UnexpectedType (datetime_type ∷ duration_type ∷ long_type ∷ []) string_type None) ∷ found_at 2 (UnexpectedType (datetime_type ∷ duration_type ∷ long_type ∷ []) true_type None) ∷ []
  less_none = refl

  -- false && (1 < 'a')
  not_reached : walked schema env [] (conj (untruth 1) (binary Less (one 2) (text 3) (mark 4)) (mark 5)) ≡
      Success (typing false_type [] (conj (lit (literal.Bool false) (at false_type (mark 1))) unreached (at false_type (mark 5))))
  not_reached = refl

  -- (1 < 'a') && [].isEmpty()
  both_sides : findings_of (walked schema env [] (conj (binary Less (one 1) (text 2) (mark 3)) (empty 4 5) (mark 6))) ≡ found_at 2 (UnexpectedType (long_type ∷ []) string_type None) ∷ found_at 4 EmptySetForbidden ∷ []
  both_sides = refl

  -- [].isEmpty() && false
  before_false : findings_of (walked schema env [] (conj (empty 1 2) (untruth 3) (mark 4))) ≡ found_at 1 EmptySetForbidden ∷ []
  before_false = refl

  -- 'a' + (if [].isEmpty() then 1 else 1): an operand's unexpected type comes directly behind what is found in it
  operands_in_turn : findings_of (walked schema env [] (binary Add (text 1) (ite (empty 2 3) (one 4) (one 5) (mark 6)) (mark 7))) ≡
      found_at 1 (UnexpectedType (long_type ∷ []) string_type (Some ConcatenationNotSupported)) ∷ found_at 2 EmptySetForbidden ∷ []
  operands_in_turn = refl

  -- if ((1 < 'a') && false) then 1 else 'a': a test that gives False asks for no join; one that gives Bool does
  given_false : findings_of (walked schema env [] (ite (conj (binary Less (one 1) (text 2) (mark 3)) (untruth 4) (mark 5)) (one 6) (text 7) (mark 8))) ≡ found_at 2 (UnexpectedType (long_type ∷ []) string_type None) ∷ []
  given_false = refl

  given_bool : findings_of (walked schema env [] (ite (binary Less (one 1) (text 2) (mark 3)) (one 4) (text 5) (mark 6))) ≡
      found_at 2 (UnexpectedType (long_type ∷ []) string_type None) ∷ found_at 6 (IncompatibleTypes (long_type ∷ string_type ∷ []) hint.None Conditional) ∷ []
  given_bool = refl

  -- a negation turns what its operand gives: !((1 < 'a') && false) + 1
  given_true : findings_of (walked schema env [] (binary Add (unary Not (conj (binary Less (one 1) (text 2) (mark 3)) (untruth 4) (mark 5)) (mark 6)) (one 7) (mark 8))) ≡
      found_at 2 (UnexpectedType (long_type ∷ []) string_type None) ∷ found_at 6 (UnexpectedType (long_type ∷ []) true_type None) ∷ []
  given_true = refl

  -- decimal('a', 'a') == decimal('a', 'a')
  two_arguments : findings_of (walked schema env [] (call (codes "decimal") (tree (text 1) (tree (text 2) no_trees)) (mark 3))) ≡ found_at 3 (WrongNumberArguments 1 2) ∷ []
  unfolding functions
  two_arguments = refl

-- principal.getTag(1)
tag_of_number : (schema : SchemaData) (e : LinkedEnvironment) → findings_of (walked schema (declared_action e) [] (binary GetTag (var Principal (mark 1)) (one 2) (mark 3))) ≡
    found_at 2 (UnexpectedType (string_type ∷ []) long_type None) ∷ found_at 3 (UnsafeTagAccess (Some (e.environment.principal ∷ [])) (codes "<expression>")) ∷ []
tag_of_number schema e = refl

-- how they read
unexpected_text : message (codes "p0") (UnexpectedType (long_type ∷ []) true_type None) ≡ codes "for policy `p0`, unexpected type: expected Long but saw __cedar::internal::True"
unexpected_text = refl

three_expected : message (codes "p0") (UnexpectedType (datetime_type ∷ duration_type ∷ long_type ∷ []) true_type None) ≡ codes "for policy `p0`, unexpected type: expected datetime, or duration, or Long but saw __cedar::internal::True"
three_expected = refl

incompatible_text : message (codes "p0") (IncompatibleTypes (true_type ∷ long_type ∷ string_type ∷ []) RecordWidth Conditional) ≡ codes "the types __cedar::internal::True, Long, and String are not compatible"
incompatible_text = refl

incompatible_help : help (codes "p0") (IncompatibleTypes (long_type ∷ string_type ∷ []) RecordWidth Conditional) ≡ Some (codes "for policy `p0`, both branches of a conditional must have compatible types. Compatible record types must have exactly the same attributes")
incompatible_help = refl

optional_text : message (codes "p0") (UnsafeOptionalAttributeAccess (access.EntityLUB (codes "User" ∷ []) (codes "a" ∷ []))) ≡ codes "for policy `p0`, unable to guarantee safety of access to optional attribute `a` on entity type `User`"
optional_text = refl

optional_help : help (codes "p0") (UnsafeOptionalAttributeAccess (access.EntityLUB (codes "User" ∷ []) (codes "a" ∷ []))) ≡ Some (codes "try testing for the attribute's presence with `e has a && ..`")
optional_help = refl

tag_help : help (codes "p0") (UnsafeTagAccess None (codes "\"t\"")) ≡ Some (codes "try testing for the tag's presence with `.hasTag(\"t\") && ..`")
tag_help = refl

-- how accesses are reported: context.foo.bar, an entity's .foo.bar, another expression's .foo.bar
abbrev untyped : Mark (Option Ty)
untyped = record { note = None; loc = None }

abbrev view : EntityUID
view = record { entity_type = codes "Action"; eid = codes "action" }

abbrev of_view : LinkedEnvironment → LinkedEnvironment
of_view e = record { environment = record { principal = e.environment.principal; action = view; resource = e.environment.resource }; context = e.context; principal_slot = None; resource_slot = None }

context_access : (e : LinkedEnvironment) → attribute_access (declared_action (of_view e)) (attr (var Context untyped) (codes "foo") untyped) (codes "bar") ≡ access.Context view (codes "foo" ∷ codes "bar" ∷ [])
context_access e = refl

context_guard : guard_text (access.Context view (codes "foo" ∷ codes "bar" ∷ [])) ≡ codes "context.foo has bar"
context_guard = refl

entity_access : (env : EnvData) → attribute_access env (attr (lit (literal.EntityUID view) (record { note = Some (entity (codes "User" ∷ [])); loc = None })) (codes "foo") untyped) (codes "bar") ≡ access.EntityLUB (codes "User" ∷ []) (codes "foo" ∷ codes "bar" ∷ [])
entity_access env = refl

entity_text : access_text (access.EntityLUB (codes "User" ∷ []) (codes "foo" ∷ codes "bar" ∷ [])) ≡ codes "`foo.bar` on entity type `User`"
entity_text = refl

entity_guard : guard_text (access.EntityLUB (codes "User" ∷ []) (codes "foo" ∷ codes "bar" ∷ [])) ≡ codes "e.foo has bar"
entity_guard = refl

two_types : access_text (access.EntityLUB (codes "A" ∷ codes "B" ∷ []) (codes "foo" ∷ [])) ≡ codes "`foo` on entity types `A`, `B`"
two_types = refl

other_access : (env : EnvData) (x y z : Typed) → attribute_access env (attr (ite x y z untyped) (codes "foo") untyped) (codes "bar") ≡ access.Other (codes "foo" ∷ codes "bar" ∷ [])
other_access env x y z = refl
