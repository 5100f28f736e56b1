-- What an operator comes to, by its operands taken apart.
use Rattle.std.specs.Prelude.{ℕ, Bool, ◌&&◌, List, [], ◌++◌, Option, Some, cond, option_map}
use Rattle.std.specs.Option.{option_and_then, option_map_or}
use Rattle.policy_expressions.specs.declared.kinds.Loc.{Loc}
use Rattle.policy_expressions.specs.declared.kinds.PatternElem.{PatternElem}
use Rattle.policy_expressions.specs.declared.kinds.UnaryOp.{UnaryOp}
use Rattle.policy_expressions.specs.Plain.{Plain}
use Rattle.policy_expressions.specs.Tree.{Mark, unary, binary, like, is_type, has, attr}
use Rattle.schema_core.specs.RequestEnvs.{env_data_of}
use Rattle.schema_core.specs.Schema.{SchemaData}
use Rattle.schema_types.specs.declared.ty.AttributeType.{AttributeType}
use Rattle.schema_types.specs.Ty.{Ty}
use Rattle.typing_spec.specs.Capability.{Capability, has_cap}
use Rattle.typing_spec.specs.Rules.{safe_type}
use Rattle.typing_spec.specs.Signatures.{bool_type}
use Rattle.typing_spec.specs.Typing.{Typed, Typing, typing, at, attribute_known, binary_caps}
use Rattle.findings.specs.Access as access
use Rattle.findings.specs.Finding as finding
use Rattle.findings.specs.Finding.{Finding}
use Rattle.typecheck_rules.specs.Own.{if_none}
use Rattle.typecheck_rules.specs.Walked.{Walked, Success, Fail, ended, lends, both, one}
use Rattle.typecheck_rules.specs.Operators as definition
use Rattle.typecheck_operators.specs.Reported.{Operand, given, mark}
use Rattle.typecheck_operators.specs.declared.attr.Access.{Access}
use Rattle.typecheck_operators.specs.declared.binary.Operator.{Operator}

-- with a type of its own, by how its expression is made of a mark
abbrev pub ended_as : Bool → Ty → List Capability →
    (Mark (Option Ty) → Typed) → Mark (Unit {0}) → List Finding → Walked
ended_as ok t cs part m fs = cond ok (Success (typing t cs (part (at t m)))) (Fail (part (at t m)) fs)

-- of one operand
abbrev pub one_of : (Typing → Option Typing) → Typed → List Finding → Operand → Walked
one_of rule failed own a = ended a.ok (option_and_then rule (given a)) failed (a.found ++ own)

abbrev pub unary_of : UnaryOp → Mark (Unit {0}) → Operand → Walked
unary_of o m a =
    one_of (definition.unary_typing o m) (unary o a.tree (lends (Some (definition.unary_given o)) m)) [] a

abbrev pub like_of : List PatternElem → Mark (Unit {0}) → Operand → Walked
like_of p m a = one_of (definition.like_typing p m) (like a.tree p (lends (Some bool_type) m)) [] a

abbrev pub is_of : List ℕ → Mark (Unit {0}) → Operand → Walked
is_of n m a = one_of (definition.is_typing n m) (is_type a.tree n (lends (Some bool_type) m)) [] a

abbrev pub has_of : SchemaData → Bool → Plain → List ℕ → Mark (Unit {0}) → Operand → Walked
has_of schema known x n m a =
    one_of (definition.has_typing_of schema known x n m) (has a.tree n (lends (Some bool_type) m)) [] a

-- `.`: whether the attribute of an operand is known to be there, and what is declared of it
abbrev pub is_known : Access → Bool
is_known o = has_cap o.caps.now (attribute_known o.on.now o.name.now)

abbrev pub attr_walked : Access → Option Loc → Walked → Walked
attr_walked o l v =
    definition.attr_walked o.schema.now (env_data_of o.env.now) (is_known o) o.name.now (mark o.loc) l v

abbrev pub attr_fitting : Access → Walked → Walked
attr_fitting o v =
    definition.attr_fitting o.schema.now (env_data_of o.env.now) (is_known o) o.name.now (mark o.loc) v

abbrev pub attr_typing : Access → Typing → Option Typing
attr_typing o a =
    definition.attr_typing o.schema.now (env_data_of o.env.now) (is_known o) o.name.now (mark o.loc) a

abbrev pub attr_found : Access → Typing → List Finding
attr_found o a =
    definition.attr_found o.schema.now (env_data_of o.env.now) (is_known o) o.name.now (mark o.loc) a

abbrev pub attr_given : Access → Option Ty → Option Ty
attr_given o t = option_and_then (definition.attr_given o.schema.now (env_data_of o.env.now) o.name.now) t

abbrev pub attr_of : Access → Operand → Walked
attr_of o a =
    one_of (attr_typing o) (attr a.tree o.name.now (lends (attr_given o a.of) (mark o.loc)))
    (option_map_or (attr_found o) (given a) []) a

-- of an attribute that is declared: its type, where it is safe to read, else that it may be absent
abbrev pub declared_typing : Access → AttributeType → Typed → Option Typing
declared_typing o d x =
    option_map (λ t. typing t [] (attr x o.name.now (at t (mark o.loc)))) (safe_type (is_known o) d)

abbrev pub absence_found : Access → AttributeType → Typed → List Finding
absence_found o d x =
    if_none (safe_type (is_known o) d)
    (one
    (finding.UnsafeOptionalAttributeAccess (access.attribute_access (env_data_of o.env.now) x o.name.now))
    o.loc)

abbrev pub declared_of : Access → AttributeType → Bool → Typed → List Finding → Walked
declared_of o d ok x fs =
    ended ok (declared_typing o d x) (attr x o.name.now (lends (Some d.attr_type) (mark o.loc)))
    (fs ++ absence_found o d x)

-- of two operands
abbrev pub binary_walked : Operator → Walked → Walked → Walked
binary_walked o v w =
    definition.binary_walked o.schema.now (env_data_of o.env.now)
    o.op o.known o.left.now o.right.now (mark o.loc) v w

abbrev pub binary_fitting : Operator → Walked → Walked → Walked
binary_fitting o v w =
    definition.binary_fitting o.schema.now (env_data_of o.env.now)
    o.op o.known o.left.now o.right.now (mark o.loc) v w

abbrev pub binary_typing : Operator → Typing → Typing → Option Typing
binary_typing o a b =
    definition.binary_typing o.schema.now (env_data_of o.env.now)
    o.op o.known o.left.now o.right.now (mark o.loc) a b

abbrev pub binary_type : Operator → Option Ty → Option Ty → Option Ty
binary_type o t u =
    definition.binary_type_given o.schema.now (env_data_of o.env.now) o.op o.known o.left.now o.right.now t u

abbrev pub binary_given : Operator → Option Ty → Option Ty
binary_given o t =
    definition.binary_given o.schema.now (env_data_of o.env.now) o.op o.left.now o.right.now t

abbrev pub binary_own : Operator → Option Ty → Option Ty → List Finding
binary_own o t u =
    definition.binary_own o.schema.now (env_data_of o.env.now)
    o.op o.known o.left.now o.right.now (mark o.loc) t u

abbrev pub binary_tree : Operator → Typed → Typed → Option Ty → Typed
binary_tree o x y t = binary o.op x y (lends t (mark o.loc))

abbrev pub binary_of : Operator → Operand → Operand → Walked
binary_of o a b =
    ended (a.ok && b.ok) (both (binary_typing o) (given a) (given b))
    (binary_tree o a.tree b.tree (binary_given o a.of)) (a.found ++ (b.found ++ binary_own o a.of b.of))

-- with a type of its own, over the expressions of its operands
abbrev pub binary_own_typing : Operator → Ty → Typed → Typed → Typing
binary_own_typing o t x y = typing t (binary_caps o.op o.left.now o.right.now) (binary_tree o x y (Some t))

-- where it has no typing, by what it gives
abbrev pub binary_failed : Operator → Option Ty → Operand → Operand → List Finding → Walked
binary_failed o t a b fs = Fail (binary_tree o a.tree b.tree t) (a.found ++ (b.found ++ fs))

-- by its own type, where it has one, and what is found of itself
abbrev pub binary_by : Operator → Option Ty → Operand → Operand → List Finding → Walked
binary_by o own a b fs =
    ended (a.ok && b.ok) (option_map (λ t. binary_own_typing o t a.tree b.tree) own)
    (binary_tree o a.tree b.tree (binary_given o a.of)) (a.found ++ (b.found ++ fs))
