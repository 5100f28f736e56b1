-- What typing an expression comes to, and what follows of it.
use Rattle.std.specs.Prelude.{Bool, true, false, List, [], Option, if◌then◌else◌}
use Rattle.policy_expressions.specs.Tree.{Tree, Mark}
use Rattle.schema_types.specs.Ty.{Ty}
use Rattle.typing_spec.specs.Capability.{Capability}
use Rattle.policy_typecheck.specs.declared.answer.TypecheckAnswer.{TypecheckAnswer}
use Rattle.policy_typecheck.specs.declared.answer.TypecheckAnswer.TheVariants.{TypecheckSuccess, TypecheckFail}

-- an expression, with the type of each part where it is known
abbrev pub Typed : Type 0
Typed = Tree (Mark (Option Ty))

-- the expression
abbrev pub expr_of : TypecheckAnswer → Typed
expr_of (TypecheckSuccess e cs) = e
expr_of (TypecheckFail e) = e

-- what is known once the expression is true: after a failure, nothing
abbrev pub known_of : TypecheckAnswer → List Capability
known_of (TypecheckSuccess e cs) = cs
known_of (TypecheckFail e) = []

-- the expression and what is known
abbrev pub part_of : TypecheckAnswer → Typed × List Capability
part_of a = (expr_of a, known_of a)

-- the expression has a type
abbrev pub is_success : TypecheckAnswer → Bool
is_success (TypecheckSuccess e cs) = true
is_success (TypecheckFail e) = false

-- the failure of the same expression
abbrev pub failed : TypecheckAnswer → TypecheckAnswer
failed a = TypecheckFail (expr_of a)

-- an answer, made to fail where what it stands on failed
abbrev pub after : Bool → TypecheckAnswer → TypecheckAnswer
after ok a = if ok then a else failed a
