-- An expression is deeper than its parts.
use Rattle.std.specs.Prelude.{ℕ, ◌+◌, ◌≤◌, List, [], ◌∷◌, map}
use Rattle.std.proofs.Common.{arith}
use denote.Param.Weighed.{most}
use Rattle.policy_expressions.specs.Tree.{Tree, Mark, depth_of, deepest, deepest_named, trees_of, named_of}
use Rattle.policy_expressions.specs.TreeView.{tree_of}
use Rattle.policy_expressions.specs.declared.expr.ExprKind.{ExprKind}
use Rattle.policy_expressions.specs.declared.expr.ExprKind.TheVariants.{ExtensionFunctionApp, Set, Record}
use Rattle.policy_expressions.specs.declared.expr.Expr.TheInside.{Inside}
use Rattle.policy_expressions.specs.declared.expr.Expr.TheDeep.{deep-Expr, deep-ExprKind}

most_le-deepest : {A : Type 0} → (xs : List (Tree A)) →
    most (λ x. depth_of x + 1) xs ≤ deepest (trees_of xs) + 1
most_le-deepest [] = omega arith
most_le-deepest (x ∷ xs) = omega (arith, most_le-deepest xs)

most_le-deepest_named : {A : Type 0} → (es : List (List ℕ × Tree A)) →
    most (λ x. depth_of x + 1) (map (λ e. e.1) es) ≤ deepest_named (named_of es) + 1
most_le-deepest_named [] = omega arith
most_le-deepest_named (e ∷ es) = omega (arith, most_le-deepest_named es)

module _ {T : Type 0} where
  kind_falls : (k : ExprKind T) (a : Mark T) → deep-ExprKind T k ≤ depth_of (tree_of k a)
  kind_falls (ExtensionFunctionApp f xs) a = omega (arith, most_le-deepest xs.items)
  kind_falls (Set xs) a = omega (arith, most_le-deepest xs.items)
  kind_falls (Record m) a = omega (arith, most_le-deepest_named m.entries)
  kind_falls k a = omega arith

  pub falls : (a : Inside T) →
      deep-Expr T a ≤ depth_of (tree_of a.kind (record { note = a.note; loc = a.loc }))
  falls a = omega (arith, kind_falls a.kind (record { note = a.note; loc = a.loc }))
