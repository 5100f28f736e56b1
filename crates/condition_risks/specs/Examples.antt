-- Examples.
use Rattle.std.specs.Prelude.{◌≡◌, Bool, true, false, [], ◌∷◌, Option, Some, None, codes, refl}
use Rattle.schema_types.specs.declared.kinds.OpenTag.TheVariants.{ClosedAttributes}
use Rattle.schema_types.specs.Ty.{Ty, entity, record_of, no_attrs}
use Rattle.policy_expressions.specs.declared.kinds.Literal.TheVariants as literal
use Rattle.policy_expressions.specs.declared.kinds.UnaryOp.TheVariants.{Not}
use Rattle.policy_expressions.specs.declared.kinds.BinaryOp.TheVariants.{Eq}
use Rattle.policy_expressions.specs.declared.kinds.Var.TheVariants.{Principal, Context}
use Rattle.policy_expressions.specs.Tree.{lit, var, ite, conj, disj, unary, binary, attr, has, Mark}
use Rattle.typing_spec.specs.Signatures.{bool_type, string_type}
use Rattle.typing_spec.specs.Typing.{Typed}
use Rattle.condition_risks.specs.Risks.{missing, risks}

abbrev of : Ty → Mark (Option Ty)
of t = record { note = Some t; loc = None }

abbrev principal : Typed
principal = var Principal (of (entity (codes "User" ∷ [])))

abbrev manager : Typed
manager = attr principal (codes "manager") (of (entity (codes "User" ∷ [])))

abbrev boolean : Bool → Typed
boolean b = lit (literal.Bool b) (of bool_type)

abbrev has_a : Typed → Typed
has_a x = has x (codes "a") (of bool_type)

-- x.b == "x"
abbrev is_x : Typed → Typed
is_x x = binary Eq (attr x (codes "b") (of string_type))
    (lit (literal.String (codes "x")) (of string_type)) (of bool_type)

-- principal.manager.b == "x"
two_missing : risks [] [] (is_x manager) ≡ missing principal ∷ missing manager ∷ []
two_missing = refl

-- where the principal is stored
one_missing : risks (principal ∷ []) [] (is_x manager) ≡ missing manager ∷ []
one_missing = refl

-- principal has a && principal.b == "x": another attribute serves
by_another : risks [] [] (conj (has_a principal) (is_x principal) (of bool_type)) ≡ []
by_another = refl

-- !(principal has a) || principal.b == "x"
by_not : risks [] []
    (disj (unary Not (has_a principal) (of bool_type)) (is_x principal) (of bool_type)) ≡ []
by_not = refl

-- (if principal has a then true else false) && principal.b == "x"
by_if : risks [] []
    (conj (ite (has_a principal) (boolean true) (boolean false) (of bool_type)) (is_x principal) (of bool_type))
    ≡ []
by_if = refl

-- context.r.b == "x", of a record r
abbrev record_r : Typed
record_r = attr (var Context (of (record_of no_attrs ClosedAttributes))) (codes "r")
    (of (record_of no_attrs ClosedAttributes))

of_records : risks [] [] (is_x record_r) ≡ []
of_records = refl
