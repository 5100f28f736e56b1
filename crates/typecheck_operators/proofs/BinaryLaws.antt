-- An operator of two operands comes to what its own type says.
use Rattle.std.proofs.Common.{◌≡◌, ◌&&◌, ◌++◌, List, Option, Some, None, option_map, refl, ap}
use Rattle.schema_types.specs.Ty.{Ty}
use Rattle.typing_spec.specs.Capability.{Capability}
use Rattle.typing_spec.specs.Typing.{Typed}
use Rattle.typecheck_rules.specs.Walked.{ended, both}
use Rattle.typecheck_operators.specs.declared.binary.Operator.{Operator}
use Rattle.typecheck_operators.specs.Operands.{binary_by, binary_given, binary_of, binary_own, binary_own_typing, binary_tree, binary_type, binary_typing}
use Rattle.typecheck_operators.specs.Reported.{Operand, given_as}

by_types : (o : Operator) (t u : Option Ty) (cs ds : List Capability) (x y : Typed)
    → option_map (λ w. binary_own_typing o w x y) (binary_type o t u) ≡ both (binary_typing o) (given_as t cs x) (given_as u ds y)
by_types o None u cs ds x y = refl
by_types o (Some t) None cs ds x y = refl
by_types o (Some t) (Some u) cs ds x y = refl

pub binary_by_type : (o : Operator) (a b : Operand) → binary_by o (binary_type o a.of b.of) a b (binary_own o a.of b.of) ≡ binary_of o a b
binary_by_type o a b =
    ap (λ r. ended (a.ok && b.ok) r (binary_tree o a.tree b.tree (binary_given o a.of)) (a.found ++ (b.found ++ binary_own o a.of b.of)))
    (by_types o a.of b.of a.caps b.caps a.tree b.tree)
