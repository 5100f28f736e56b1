-- What findings say is so: each names a part of the expression, the types that its operands give, and the
-- rule that they break.
use Rattle.std.specs.Prelude.{◌≡◌, ⊤, ℕ, false, ◌==◌, List, [], ◌∷◌, ◌++◌, length, None, Some, Err, Contains, All, IsSomeAnd}
use Rattle.std.specs.Option.{option_and_then}
use Rattle.schema_types.specs.Names.{only_name}
use Rattle.schema_types.specs.Ty.{Ty, never, any_set, set_of}
use Rattle.schema_core.specs.Schema.{SchemaData}
use Rattle.schema_core.specs.EnvData.{EnvData}
use Rattle.type_relations.specs.declared.mode.SubtypeMode.TheVariants.{Strict, Permissive}
use Rattle.type_relations.specs.Attributes.{may_have, names_of}
use Rattle.type_relations.specs.Join.{join_all}
use Rattle.type_relations.specs.Subtype.{Subtype}
use Rattle.policy_expressions.specs.declared.kinds.BinaryOp.TheVariants.{Contains as ContainsOp, GetTag}
use Rattle.policy_expressions.specs.declared.functions.ExtensionFunction.{ExtensionFunction}
use Rattle.policy_expressions.specs.Functions.{function_of}
use Rattle.policy_expressions.specs.Tree.{lit, var, slot, ite, conj, disj, unary, binary, attr, has, like, is_type, call, set, rec, Trees, no_trees, tree, Named, no_named, named, Mark}
use Rattle.policy_expressions.specs.Plain.{Plain}
use Rattle.typing_spec.specs.Capability.{Capability, has_cap}
use Rattle.typing_spec.specs.Typing.{attribute_known, tag_known}
use Rattle.typing_spec.specs.Signatures.{signature_of, count_of, only_text, has_literals, is_readable}
use Rattle.typing_spec.specs.Environment.{declared_attributes}
use Rattle.typing_spec.specs.Rules.{attribute_of, tag_type}
use Rattle.findings.specs.Finding.{Finding, Kind, UnexpectedType, IncompatibleTypes, UnsafeAttributeAccess, UnsafeOptionalAttributeAccess, UnsafeTagAccess, NoTagsAllowed, UndefinedFunction, WrongNumberArguments, FunctionArgumentValidation, EmptySetForbidden, NonLitExtConstructor}
use Rattle.typecheck_rules.specs.Expected.{a_boolean}
use Rattle.typecheck_rules.specs.Walked.{Walked, Success, Fail, expect, findings_of}
use Rattle.typecheck_rules.specs.Own.{ascending, entity_names, tag_text, unreadable}
use Rattle.typecheck_rules.specs.Operators.{place, type_given}
use Rattle.typecheck_rules.specs.Walk.{walked}

-- a type that no schema gives: of no value, of sets of anything, of sets of no value
abbrev pub IsVoid : Ty → Type 0
IsVoid never = ⊤
IsVoid any_set = ⊤
IsVoid (set_of never) = ⊤
IsVoid t = ⊥

-- none of the types is above this one, unless this one is given by no schema
abbrev pub NoneAbove : Ty → List Ty → Type 0
NoneAbove t [] = ⊤
NoneAbove t (u ∷ us) = (Subtype Permissive t u → IsVoid t) × NoneAbove t us

-- a part of an expression, with what is known before it
pub record Part : Type 0 where
  pub known : List Capability
  pub is : Plain

abbrev pub part : List Capability → Plain → Part
part cs e = record { known = cs; is = e }

-- what is known behind a test: also what it makes known, where it has a type
abbrev pub known_after : List Capability → Walked → List Capability
known_after cs (Success a) = cs ++ a.caps
known_after cs (Fail t fs) = cs

module _ (schema : SchemaData) (env : EnvData) where
  -- a test or a side, of which a boolean is expected
  abbrev pub tested : List Capability → Plain → Walked
  tested cs x = expect a_boolean (place x) (walked schema env cs x)

  -- the expression and all its parts: what a test makes known is known in the branch behind it, what the left
  -- side of `&&` does in its right one
  abbrev mutual
    pub parts : List Capability → Plain → List Part
    parts cs (lit l m) = part cs (lit l m) ∷ []
    parts cs (var v m) = part cs (var v m) ∷ []
    parts cs (slot i m) = part cs (slot i m) ∷ []
    parts cs (ite x y z m) =
        part cs (ite x y z m) ∷ (parts cs x ++ (parts (known_after cs (tested cs x)) y ++ parts cs z))
    parts cs (conj x y m) = part cs (conj x y m) ∷ (parts cs x ++ parts (known_after cs (tested cs x)) y)
    parts cs (disj x y m) = part cs (disj x y m) ∷ (parts cs x ++ parts cs y)
    parts cs (unary o x m) = part cs (unary o x m) ∷ parts cs x
    parts cs (binary o x y m) = part cs (binary o x y m) ∷ (parts cs x ++ parts cs y)
    parts cs (attr x n m) = part cs (attr x n m) ∷ parts cs x
    parts cs (has x n m) = part cs (has x n m) ∷ parts cs x
    parts cs (like x p m) = part cs (like x p m) ∷ parts cs x
    parts cs (is_type x n m) = part cs (is_type x n m) ∷ parts cs x
    parts cs (call f xs m) = part cs (call f xs m) ∷ all_parts cs xs
    parts cs (set xs m) = part cs (set xs m) ∷ all_parts cs xs
    parts cs (rec xs m) = part cs (rec xs m) ∷ named_parts cs xs

    pub all_parts : List Capability → Trees (Mark (Unit {0})) → List Part
    all_parts cs no_trees = []
    all_parts cs (tree x xs) = parts cs x ++ all_parts cs xs

    pub named_parts : List Capability → Named (Mark (Unit {0})) → List Part
    named_parts cs no_named = []
    named_parts cs (named k x xs) = parts cs x ++ named_parts cs xs

  -- with this known before it, a part has the type or, where it has none, gives it to the operator above
  abbrev pub Gives : List Capability → Plain → Ty → Type 0
  Gives cs e t = type_given (walked schema env cs e) ≡ Some t

  -- the types that the elements of a set literal give, in their order
  abbrev pub GiveEach : List Capability → Trees (Mark (Unit {0})) → List Ty → Type 0
  GiveEach cs no_trees [] = ⊤
  GiveEach cs (tree x xs) (t ∷ ts) = Gives cs x t × GiveEach cs xs ts
  GiveEach cs xs ts = ⊥

  -- the types of which a part needs a join: of the branches of an `if`, of a set's elements, of the elements
  -- of the left operand of `contains` and of its right operand, of the operands of another operator
  abbrev pub IsToJoin : List Capability → Plain → List Ty → Type 0
  IsToJoin cs (ite x y z m) (t ∷ u ∷ []) = Gives (known_after cs (tested cs x)) y t × Gives cs z u
  IsToJoin cs (set xs m) ts = GiveEach cs xs ts
  IsToJoin cs (binary ContainsOp x y m) (t ∷ u ∷ []) = Gives cs x (set_of t) × Gives cs y u
  IsToJoin cs (binary o x y m) (t ∷ u ∷ []) = Gives cs x t × Gives cs y u
  IsToJoin cs e ts = ⊥

  -- what a finding of the kind says of the part at which it stands, with what is known before that
  abbrev pub IsSo : List Capability → Plain → Kind → Type 0
  IsSo cs e (UnexpectedType expected actual help) = Gives cs e actual × NoneAbove actual expected
  IsSo cs e (IncompatibleTypes types why context) =
      (ts : List Ty) × IsToJoin cs e ts × (types ≡ ascending ts) × (join_all Strict ts ≡ Err why)
  IsSo cs (attr x n m) (UnsafeAttributeAccess access may_exist) =
      (t : Ty) × Gives cs x t × (attribute_of schema t n ≡ None) ×
      (may_exist ≡ may_have (declared_attributes schema) t n)
  IsSo cs (attr x n m) (UnsafeOptionalAttributeAccess access) =
      (t : Ty) × Gives cs x t × IsSomeAnd (attribute_of schema t n) (λ a. a.is_required ≡ false) ×
      (has_cap cs (attribute_known x n) ≡ false)
  IsSo cs (binary GetTag x k m) (UnsafeTagAccess types tag) =
      (t : Ty) × Gives cs x t × (types ≡ entity_names t) ×
      (tag ≡ tag_text k) × (has_cap cs (tag_known x k) ≡ false)
  IsSo cs (binary GetTag x k m) (NoTagsAllowed type) =
      (t : Ty) × Gives cs x t × (type ≡ option_and_then only_name (names_of t)) × (tag_type schema t ≡ None)
  IsSo cs (call f xs m) (UndefinedFunction name) = (name ≡ f) × (function_of f ≡ None)
  IsSo cs (call f xs m) (WrongNumberArguments expected actual) =
      (g : ExtensionFunction) × (function_of f ≡ Some g) × (expected ≡ length (signature_of g).arguments) ×
      (actual ≡ count_of xs) × ((actual == expected) ≡ false)
  IsSo cs (call f xs m) (FunctionArgumentValidation text) =
      (g : ExtensionFunction) × (function_of f ≡ Some g) × (s : List ℕ) × (only_text xs ≡ Some s) ×
      (FunctionArgumentValidation text ≡ unreadable g s) × (is_readable g s ≡ false)
  IsSo cs (call f xs m) NonLitExtConstructor =
      (g : ExtensionFunction) × (function_of f ≡ Some g) × (has_literals g xs ≡ false)
  IsSo cs (set xs m) EmptySetForbidden = xs ≡ no_trees
  IsSo cs e k = ⊥

-- the finding stands at one of the parts, and what it says of that is so
pub record IsTrueAt (schema : SchemaData) (env : EnvData) (ps : List Part) (f : Finding) : Type 0 where
  pub part : Part
  pub among : Contains ps part
  pub at : place part.is ≡ f.loc
  pub so : IsSo schema env part.known part.is f.kind

abbrev pub FindingsAreTrue : Type 0
FindingsAreTrue = (schema : SchemaData) (env : EnvData) (cs : List Capability) (e : Plain) →
    All (IsTrueAt schema env (parts schema env cs e)) (findings_of (walked schema env cs e))
