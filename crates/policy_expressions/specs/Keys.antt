-- Records with each of their keys once.
use Rattle.std.specs.Prelude.{◌≡◌, ⊤, ℕ, false, List}
use Rattle.std.specs.Ordering.{is_eq}
use Rattle.policy_values.specs.Uid.{text_cmp}
use Rattle.policy_expressions.specs.Tree.{Tree, lit, var, slot, ite, conj, disj, unary, binary, attr, has, like, is_type, call, set, rec, Trees, no_trees, tree, Named, no_named, named}

-- the key is none of the record's
abbrev pub IsFresh : {A : Type 0} → List ℕ → Named A → Type 0
IsFresh k no_named = ⊤
IsFresh k (named l x xs) = (is_eq (text_cmp l k) ≡ false) × IsFresh k xs

-- each record of the expression has each of its keys once
module _ {A : Type 0} where
  abbrev mutual
    pub HasKeysOnce : Tree A → Type 0
    HasKeysOnce (lit l a) = ⊤
    HasKeysOnce (var v a) = ⊤
    HasKeysOnce (slot i a) = ⊤
    HasKeysOnce (ite x y z a) = HasKeysOnce x × HasKeysOnce y × HasKeysOnce z
    HasKeysOnce (conj x y a) = HasKeysOnce x × HasKeysOnce y
    HasKeysOnce (disj x y a) = HasKeysOnce x × HasKeysOnce y
    HasKeysOnce (unary o x a) = HasKeysOnce x
    HasKeysOnce (binary o x y a) = HasKeysOnce x × HasKeysOnce y
    HasKeysOnce (attr x n a) = HasKeysOnce x
    HasKeysOnce (has x n a) = HasKeysOnce x
    HasKeysOnce (like x p a) = HasKeysOnce x
    HasKeysOnce (is_type x n a) = HasKeysOnce x
    HasKeysOnce (call f xs a) = HaveKeysOnce xs
    HasKeysOnce (set xs a) = HaveKeysOnce xs
    HasKeysOnce (rec xs a) = AreKeysOnce xs

    pub HaveKeysOnce : Trees A → Type 0
    HaveKeysOnce no_trees = ⊤
    HaveKeysOnce (tree x xs) = HasKeysOnce x × HaveKeysOnce xs

    pub AreKeysOnce : Named A → Type 0
    AreKeysOnce no_named = ⊤
    AreKeysOnce (named k x xs) = HasKeysOnce x × IsFresh k xs × AreKeysOnce xs
