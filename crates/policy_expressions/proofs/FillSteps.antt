-- Expressions with literals in the places of slots: they are as deep and have the same keys, and without any literal they are
-- the same.
use Rattle.std.proofs.Common.{◌≡◌, ℕ, List, [], ◌∷◌, map, Option, Some, None, ap, refl, arith}
use Rattle.policy_values.specs.declared.entity_uid.EntityUID.{EntityUID}
use Rattle.policy_expressions.specs.declared.kinds.SlotId.{SlotId}
use Rattle.policy_expressions.specs.declared.kinds.SlotId.TheVariants.{Principal, Resource}
use Rattle.policy_expressions.specs.declared.kinds.SlotValues.{SlotValues}
use Rattle.policy_expressions.specs.Tree.{Tree, lit, var, slot, ite, conj, disj, unary, binary, attr, has, like, is_type, call, set, rec, Trees, no_trees, tree, Named, no_named, named, depth_of, deepest, deepest_named, trees_of, named_of}
use Rattle.policy_expressions.specs.Keys.{IsFresh, HasKeysOnce, HaveKeysOnce, AreKeysOnce}
use Rattle.policy_expressions.specs.Slots.{value_of, in_place, filled, filled_all, filled_named, filled_entry}

no_values : (i : SlotId) → value_of (record { principal = None; resource = None }) i ≡ None
no_values Principal = refl
no_values Resource = refl

module _ {A : Type 0} where
  one_deep : (o : Option EntityUID) (i : SlotId) (a : A) → depth_of (in_place o i a) ≡ 1
  one_deep (Some u) i a = refl
  one_deep None i a = refl

  mutual
    pub depth_filled : (w : SlotValues) (e : Tree A) → depth_of (filled w e) ≡ depth_of e
    depth_filled w (lit l a) = refl
    depth_filled w (var v a) = refl
    depth_filled w (slot i a) = one_deep (value_of w i) i a
    depth_filled w (ite x y z a) = omega (arith, depth_filled w x, depth_filled w y, depth_filled w z)
    depth_filled w (conj x y a) = omega (arith, depth_filled w x, depth_filled w y)
    depth_filled w (disj x y a) = omega (arith, depth_filled w x, depth_filled w y)
    depth_filled w (unary o x a) = omega (arith, depth_filled w x)
    depth_filled w (binary o x y a) = omega (arith, depth_filled w x, depth_filled w y)
    depth_filled w (attr x n a) = omega (arith, depth_filled w x)
    depth_filled w (has x n a) = omega (arith, depth_filled w x)
    depth_filled w (like x p a) = omega (arith, depth_filled w x)
    depth_filled w (is_type x t a) = omega (arith, depth_filled w x)
    depth_filled w (call f xs a) = omega (arith, depth_filled_all w xs)
    depth_filled w (set xs a) = omega (arith, depth_filled_all w xs)
    depth_filled w (rec xs a) = omega (arith, depth_filled_named w xs)

    depth_filled_all : (w : SlotValues) (xs : Trees A) → deepest (filled_all w xs) ≡ deepest xs
    depth_filled_all w no_trees = refl
    depth_filled_all w (tree x xs) = omega (arith, depth_filled w x, depth_filled_all w xs)

    depth_filled_named : (w : SlotValues) (xs : Named A) → deepest_named (filled_named w xs) ≡ deepest_named xs
    depth_filled_named w no_named = refl
    depth_filled_named w (named k x xs) = omega (arith, depth_filled w x, depth_filled_named w xs)

  placed : (o : Option EntityUID) (i : SlotId) (a : A) → HasKeysOnce (in_place o i a)
  placed (Some u) i a = tt
  placed None i a = tt

  fresh_filled : (w : SlotValues) (k : List ℕ) (xs : Named A) → IsFresh k xs → IsFresh k (filled_named w xs)
  fresh_filled w k no_named h = tt
  fresh_filled w k (named l x xs) h = (h.0, fresh_filled w k xs h.1)

  mutual
    pub keys_filled : (w : SlotValues) (e : Tree A) → HasKeysOnce e → HasKeysOnce (filled w e)
    keys_filled w (lit l a) h = tt
    keys_filled w (var v a) h = tt
    keys_filled w (slot i a) h = placed (value_of w i) i a
    keys_filled w (ite x y z a) h = (keys_filled w x h.0, keys_filled w y h.1, keys_filled w z h.2)
    keys_filled w (conj x y a) h = (keys_filled w x h.0, keys_filled w y h.1)
    keys_filled w (disj x y a) h = (keys_filled w x h.0, keys_filled w y h.1)
    keys_filled w (unary o x a) h = keys_filled w x h
    keys_filled w (binary o x y a) h = (keys_filled w x h.0, keys_filled w y h.1)
    keys_filled w (attr x n a) h = keys_filled w x h
    keys_filled w (has x n a) h = keys_filled w x h
    keys_filled w (like x p a) h = keys_filled w x h
    keys_filled w (is_type x t a) h = keys_filled w x h
    keys_filled w (call f xs a) h = keys_filled_all w xs h
    keys_filled w (set xs a) h = keys_filled_all w xs h
    keys_filled w (rec xs a) h = keys_filled_named w xs h

    keys_filled_all : (w : SlotValues) (xs : Trees A) → HaveKeysOnce xs → HaveKeysOnce (filled_all w xs)
    keys_filled_all w no_trees h = tt
    keys_filled_all w (tree x xs) h = (keys_filled w x h.0, keys_filled_all w xs h.1)

    keys_filled_named : (w : SlotValues) (xs : Named A) → AreKeysOnce xs → AreKeysOnce (filled_named w xs)
    keys_filled_named w no_named h = tt
    keys_filled_named w (named k x xs) h = (keys_filled w x h.0, fresh_filled w k xs h.1, keys_filled_named w xs h.2)

  pub trees_filled : (w : SlotValues) (xs : List (Tree A)) → trees_of (map (filled w) xs) ≡ filled_all w (trees_of xs)
  trees_filled w [] = refl
  trees_filled w (x ∷ xs) = ap (λ ys. tree (filled w x) ys) (trees_filled w xs)

  pub named_filled : (w : SlotValues) (es : List (List ℕ × Tree A)) → named_of (map (filled_entry w) es) ≡ filled_named w (named_of es)
  named_filled w [] = refl
  named_filled w (e ∷ es) = ap (λ ys. named e.0 (filled w e.1) ys) (named_filled w es)

  mutual
    pub filled_with_none : (e : Tree A) → filled (record { principal = None; resource = None }) e ≡ e
    filled_with_none (lit l a) = refl
    filled_with_none (var v a) = refl
    filled_with_none (slot i a) = ap (λ o. in_place o i a) (no_values i)
    filled_with_none (ite x y z a) = λ i. ite (filled_with_none x i) (filled_with_none y i) (filled_with_none z i) a
    filled_with_none (conj x y a) = λ i. conj (filled_with_none x i) (filled_with_none y i) a
    filled_with_none (disj x y a) = λ i. disj (filled_with_none x i) (filled_with_none y i) a
    filled_with_none (unary o x a) = λ i. unary o (filled_with_none x i) a
    filled_with_none (binary o x y a) = λ i. binary o (filled_with_none x i) (filled_with_none y i) a
    filled_with_none (attr x n a) = λ i. attr (filled_with_none x i) n a
    filled_with_none (has x n a) = λ i. has (filled_with_none x i) n a
    filled_with_none (like x p a) = λ i. like (filled_with_none x i) p a
    filled_with_none (is_type x t a) = λ i. is_type (filled_with_none x i) t a
    filled_with_none (call f xs a) = λ i. call f (all_filled_with_none xs i) a
    filled_with_none (set xs a) = λ i. set (all_filled_with_none xs i) a
    filled_with_none (rec xs a) = λ i. rec (named_filled_with_none xs i) a

    all_filled_with_none : (xs : Trees A) → filled_all (record { principal = None; resource = None }) xs ≡ xs
    all_filled_with_none no_trees = refl
    all_filled_with_none (tree x xs) = λ i. tree (filled_with_none x i) (all_filled_with_none xs i)

    named_filled_with_none : (xs : Named A) → filled_named (record { principal = None; resource = None }) xs ≡ xs
    named_filled_with_none no_named = refl
    named_filled_with_none (named k x xs) = λ i. named k (filled_with_none x i) (named_filled_with_none xs i)
