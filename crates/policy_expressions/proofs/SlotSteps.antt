-- Slots: where a level of an expression has one, and what filling leaves as it is.
use Rattle.std.proofs.Common.{◌≡◌, Bool, true, false, ◌||◌, refl, ap}
use Rattle.policy_expressions.specs.declared.expr.ExprKind.{ExprKind}
use Rattle.policy_expressions.specs.declared.expr.ExprKind.TheVariants.{Lit, Var, Slot, If, And, Or, UnaryApp, BinaryApp, GetAttr, HasAttr, Like, Is, ExtensionFunctionApp, Set, Record}
use Rattle.policy_expressions.specs.declared.kinds.SlotValues.{SlotValues}
use Rattle.policy_expressions.specs.KindSlots.{slot_in}
use Rattle.policy_expressions.specs.Slots.{has_slot, some_has_slot, some_named_has_slot, filled, filled_all, filled_named}
use Rattle.policy_expressions.specs.Tree.{Tree, lit, var, slot, ite, conj, disj, unary, binary, attr, has, like, is_type, call, set, rec, Trees, no_trees, tree, Named, no_named, named, Mark}
use Rattle.policy_expressions.specs.TreeView.{tree_of}

module _ {T : Type 0} where
  pub slot_in_tree : (k : ExprKind T) (a : Mark T) → slot_in k ≡ has_slot (tree_of k a)
  slot_in_tree (Lit l) a = refl
  slot_in_tree (Var v) a = refl
  slot_in_tree (Slot i) a = refl
  slot_in_tree (If x y z) a = refl
  slot_in_tree (And x y) a = refl
  slot_in_tree (Or x y) a = refl
  slot_in_tree (UnaryApp o x) a = refl
  slot_in_tree (BinaryApp o x y) a = refl
  slot_in_tree (GetAttr x n) a = refl
  slot_in_tree (HasAttr x n) a = refl
  slot_in_tree (Like x p) a = refl
  slot_in_tree (Is x t) a = refl
  slot_in_tree (ExtensionFunctionApp f xs) a = refl
  slot_in_tree (Set xs) a = refl
  slot_in_tree (Record m) a = refl

left_false : (a b : Bool) → (a || b) ≡ false → a ≡ false
left_false true b h = h
left_false false b h = refl

right_false : (a b : Bool) → (a || b) ≡ false → b ≡ false
right_false true b h = absurd (cc)
right_false false b h = h

module _ {A : Type 0} (w : SlotValues) where
  mutual
    pub filled_without_slot : (x : Tree A) → has_slot x ≡ false → filled w x ≡ x
    filled_without_slot (lit l m) h = refl
    filled_without_slot (var v m) h = refl
    filled_without_slot (slot i m) h = absurd (cc)
    filled_without_slot (ite x y z m) h =
        let k = right_false (has_slot x) (has_slot y || has_slot z) h in
        λ i. ite (filled_without_slot x (left_false (has_slot x) (has_slot y || has_slot z) h) i) (filled_without_slot y (left_false (has_slot y) (has_slot z) k) i) (filled_without_slot z (right_false (has_slot y) (has_slot z) k) i) m
    filled_without_slot (conj x y m) h = λ i. conj (filled_without_slot x (left_false (has_slot x) (has_slot y) h) i) (filled_without_slot y (right_false (has_slot x) (has_slot y) h) i) m
    filled_without_slot (disj x y m) h = λ i. disj (filled_without_slot x (left_false (has_slot x) (has_slot y) h) i) (filled_without_slot y (right_false (has_slot x) (has_slot y) h) i) m
    filled_without_slot (unary o x m) h = ap (λ z. unary o z m) (filled_without_slot x h)
    filled_without_slot (binary o x y m) h = λ i. binary o (filled_without_slot x (left_false (has_slot x) (has_slot y) h) i) (filled_without_slot y (right_false (has_slot x) (has_slot y) h) i) m
    filled_without_slot (attr x n m) h = ap (λ z. attr z n m) (filled_without_slot x h)
    filled_without_slot (has x n m) h = ap (λ z. has z n m) (filled_without_slot x h)
    filled_without_slot (like x p m) h = ap (λ z. like z p m) (filled_without_slot x h)
    filled_without_slot (is_type x n m) h = ap (λ z. is_type z n m) (filled_without_slot x h)
    filled_without_slot (call f xs m) h = ap (λ z. call f z m) (all_without_slot xs h)
    filled_without_slot (set xs m) h = ap (λ z. set z m) (all_without_slot xs h)
    filled_without_slot (rec xs m) h = ap (λ z. rec z m) (named_without_slot xs h)

    all_without_slot : (xs : Trees A) → some_has_slot xs ≡ false → filled_all w xs ≡ xs
    all_without_slot no_trees h = refl
    all_without_slot (tree x xs) h = λ i. tree (filled_without_slot x (left_false (has_slot x) (some_has_slot xs) h) i) (all_without_slot xs (right_false (has_slot x) (some_has_slot xs) h) i)

    named_without_slot : (xs : Named A) → some_named_has_slot xs ≡ false → filled_named w xs ≡ xs
    named_without_slot no_named h = refl
    named_without_slot (named k x xs) h = λ i. named k (filled_without_slot x (left_false (has_slot x) (some_named_has_slot xs) h) i) (named_without_slot xs (right_false (has_slot x) (some_named_has_slot xs) h) i)
