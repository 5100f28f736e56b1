-- Whether a slot is in one level of an expression, whose parts are seen already.
use Rattle.std.specs.Prelude.{Bool, true, false, ◌||◌}
use Rattle.policy_expressions.specs.Slots.{has_slot, some_has_slot, some_named_has_slot}
use Rattle.policy_expressions.specs.Tree.{trees_of, named_of}
use Rattle.policy_expressions.specs.declared.expr.ExprKind.{ExprKind}
use Rattle.policy_expressions.specs.declared.expr.ExprKind.TheVariants.{Lit, Var, Slot, If, And, Or, UnaryApp, BinaryApp, GetAttr, HasAttr, Like, Is, ExtensionFunctionApp, Set, Record}

module _ {T : Type 0} where
  abbrev pub slot_in : ExprKind T → Bool
  slot_in (Lit l) = false
  slot_in (Var v) = false
  slot_in (Slot i) = true
  slot_in (If x y z) = has_slot x.value || (has_slot y.value || has_slot z.value)
  slot_in (And x y) = has_slot x.value || has_slot y.value
  slot_in (Or x y) = has_slot x.value || has_slot y.value
  slot_in (UnaryApp o x) = has_slot x.value
  slot_in (BinaryApp o x y) = has_slot x.value || has_slot y.value
  slot_in (GetAttr x n) = has_slot x.value
  slot_in (HasAttr x n) = has_slot x.value
  slot_in (Like x p) = has_slot x.value
  slot_in (Is x t) = has_slot x.value
  slot_in (ExtensionFunctionApp f xs) = some_has_slot (trees_of xs.items)
  slot_in (Set xs) = some_has_slot (trees_of xs.items)
  slot_in (Record m) = some_named_has_slot (named_of m.entries)
