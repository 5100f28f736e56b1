-- One level of an expression, whose parts are seen already.
use Rattle.policy_expressions.specs.Tree.{Tree, lit, var, slot, ite, conj, disj, unary, binary, attr, has, like, is_type, call, set, rec, Mark, trees_of, named_of}
use Rattle.policy_expressions.specs.declared.expr.ExprKind.{ExprKind}
use Rattle.policy_expressions.specs.declared.expr.ExprKind.TheVariants.{Lit, Var, Slot, If, And, Or, UnaryApp, BinaryApp, GetAttr, HasAttr, Like, Is, ExtensionFunctionApp, Set, Record}

module _ {T : Type 0} where
  abbrev pub tree_of : ExprKind T → Mark T → Tree (Mark T)
  tree_of (Lit l) a = lit l a
  tree_of (Var v) a = var v a
  tree_of (Slot i) a = slot i a
  tree_of (If x y z) a = ite x.value y.value z.value a
  tree_of (And x y) a = conj x.value y.value a
  tree_of (Or x y) a = disj x.value y.value a
  tree_of (UnaryApp o x) a = unary o x.value a
  tree_of (BinaryApp o x y) a = binary o x.value y.value a
  tree_of (GetAttr x n) a = attr x.value n a
  tree_of (HasAttr x n) a = has x.value n a
  tree_of (Like x p) a = like x.value p a
  tree_of (Is x t) a = is_type x.value t a
  tree_of (ExtensionFunctionApp f xs) a = call f (trees_of xs.items) a
  tree_of (Set xs) a = set (trees_of xs.items) a
  tree_of (Record m) a = rec (named_of m.entries) a
