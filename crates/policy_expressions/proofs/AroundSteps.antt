-- What stands around operands with ids in the places of slots is as deep as before, and has the same keys.
use Rattle.std.proofs.Common.{◌≡◌, ◌≤◌, ℕ, Option, ap, ◌∙◌, refl, sym, subst}
use Rattle.policy_expressions.specs.declared.expr.ExprKind.{ExprKind}
use Rattle.policy_expressions.specs.declared.expr.ExprKind.TheVariants.{Lit}
use Rattle.policy_expressions.specs.declared.kinds.Loc.{Loc}
use Rattle.policy_expressions.specs.declared.kinds.SlotValues.{SlotValues}
use Rattle.policy_expressions.specs.Keys.{HasKeysOnce}
use Rattle.policy_expressions.specs.Slots.{filled}
use Rattle.policy_expressions.specs.Tree.{Tree, Mark, mark_of, depth_of}
use Rattle.policy_expressions.specs.TreeView.{tree_of}
use Rattle.policy_expressions.proofs.FillSteps.{depth_filled, keys_filled}

module _ {T : Type 0} where
  mark_of-tree_of : (k : ExprKind T) (a : Mark T) → mark_of (tree_of k a) ≡ a
  mark_of-tree_of (Lit l) a = refl
  mark_of-tree_of k a = refl

  Stands : ℕ → Tree (Mark T) → Type 0
  Stands d e = (d ≡ depth_of e) × (d ≤ 400) × HasKeysOnce e

  pub stands_around : (w : SlotValues) (k l : ExprKind T) (note copy : T) (loc : Option Loc) (e : Tree (Mark T)) (d : ℕ)
      → tree_of k (record { note = note; loc = loc }) ≡ e → tree_of l (mark_of e) ≡ filled w e → copy ≡ note
      → (d ≡ depth_of (tree_of k (record { note = note; loc = loc }))) × (d ≤ 400) × HasKeysOnce (tree_of k (record { note = note; loc = loc }))
      → (d ≡ depth_of (tree_of l (record { note = copy; loc = loc }))) × (d ≤ 400) × HasKeysOnce (tree_of l (record { note = copy; loc = loc }))
  unfolding Stands
  stands_around w k l note copy loc e d is made same h =
      let a : Mark T = record { note = note; loc = loc } in
      let b : Mark T = record { note = copy; loc = loc } in
      let copied : b ≡ a = (λ i. record { note = same i; loc = loc }) in
      let all : tree_of l b ≡ filled w e = ap (λ (m : Mark T). tree_of l m) (copied ∙ sym (mark_of-tree_of k a) ∙ ap mark_of is) ∙ made in
      let here : Stands d e = subst (Stands d) is h in
      let there : Stands d (filled w e) = (here.0 ∙ sym (depth_filled w e), here.1, keys_filled w e here.2) in
      subst (Stands d) (sym all) there
