-- An expression as plain data, with a mark of type A at each node.
use Rattle.std.specs.Prelude.{ℕ, ◌+◌, max, List, [], ◌∷◌, Option}
use Rattle.policy_expressions.specs.declared.kinds.Loc.{Loc}
use Rattle.policy_expressions.specs.declared.kinds.Literal.{Literal}
use Rattle.policy_expressions.specs.declared.kinds.Var.{Var}
use Rattle.policy_expressions.specs.declared.kinds.SlotId.{SlotId}
use Rattle.policy_expressions.specs.declared.kinds.PatternElem.{PatternElem}
use Rattle.policy_expressions.specs.declared.kinds.UnaryOp.{UnaryOp}
use Rattle.policy_expressions.specs.declared.kinds.BinaryOp.{BinaryOp}

mutual
  pub data Tree (A : Type 0) : Type 0 where
    lit : Literal → A → Tree A
    var : Var → A → Tree A
    slot : SlotId → A → Tree A
    ite : Tree A → Tree A → Tree A → A → Tree A
    conj : Tree A → Tree A → A → Tree A
    disj : Tree A → Tree A → A → Tree A
    unary : UnaryOp → Tree A → A → Tree A
    binary : BinaryOp → Tree A → Tree A → A → Tree A
    attr : Tree A → List ℕ → A → Tree A
    has : Tree A → List ℕ → A → Tree A
    like : Tree A → List PatternElem → A → Tree A
    is_type : Tree A → List ℕ → A → Tree A
    call : List ℕ → Trees A → A → Tree A
    set : Trees A → A → Tree A
    rec : Named A → A → Tree A

  pub data Trees (A : Type 0) : Type 0 where
    no_trees : Trees A
    tree : Tree A → Trees A → Trees A

  pub data Named (A : Type 0) : Type 0 where
    no_named : Named A
    named : List ℕ → Tree A → Named A → Named A

-- a note, and a place in the source
pub record Mark (T : Type 0) : Type 0 where
  pub note : T
  pub loc : Option Loc

module _ {A : Type 0} where
  abbrev mutual
    pub depth_of : Tree A → ℕ
    depth_of (lit l a) = 1
    depth_of (var v a) = 1
    depth_of (slot i a) = 1
    depth_of (ite x y z a) = max (depth_of x) (max (depth_of y) (depth_of z)) + 1
    depth_of (conj x y a) = max (depth_of x) (depth_of y) + 1
    depth_of (disj x y a) = max (depth_of x) (depth_of y) + 1
    depth_of (unary o x a) = depth_of x + 1
    depth_of (binary o x y a) = max (depth_of x) (depth_of y) + 1
    depth_of (attr x n a) = depth_of x + 1
    depth_of (has x n a) = depth_of x + 1
    depth_of (like x p a) = depth_of x + 1
    depth_of (is_type x t a) = depth_of x + 1
    depth_of (call f xs a) = deepest xs + 1
    depth_of (set xs a) = deepest xs + 1
    depth_of (rec xs a) = deepest_named xs + 1

    pub deepest : Trees A → ℕ
    deepest no_trees = 0
    deepest (tree x xs) = max (depth_of x) (deepest xs)

    pub deepest_named : Named A → ℕ
    deepest_named no_named = 0
    deepest_named (named k x xs) = max (depth_of x) (deepest_named xs)

  abbrev pub mark_of : Tree A → A
  mark_of (lit l a) = a
  mark_of (var v a) = a
  mark_of (slot i a) = a
  mark_of (ite x y z a) = a
  mark_of (conj x y a) = a
  mark_of (disj x y a) = a
  mark_of (unary o x a) = a
  mark_of (binary o x y a) = a
  mark_of (attr x n a) = a
  mark_of (has x n a) = a
  mark_of (like x p a) = a
  mark_of (is_type x t a) = a
  mark_of (call f xs a) = a
  mark_of (set xs a) = a
  mark_of (rec xs a) = a

  -- the same with another mark at the top
  abbrev pub with_mark : Tree A → A → Tree A
  with_mark (lit l a) b = lit l b
  with_mark (var v a) b = var v b
  with_mark (slot i a) b = slot i b
  with_mark (ite x y z a) b = ite x y z b
  with_mark (conj x y a) b = conj x y b
  with_mark (disj x y a) b = disj x y b
  with_mark (unary o x a) b = unary o x b
  with_mark (binary o x y a) b = binary o x y b
  with_mark (attr x n a) b = attr x n b
  with_mark (has x n a) b = has x n b
  with_mark (like x p a) b = like x p b
  with_mark (is_type x t a) b = is_type x t b
  with_mark (call f xs a) b = call f xs b
  with_mark (set xs a) b = set xs b
  with_mark (rec xs a) b = rec xs b

  abbrev pub trees_of : List (Tree A) → Trees A
  trees_of [] = no_trees
  trees_of (x ∷ xs) = tree x (trees_of xs)

  abbrev pub named_of : List (List ℕ × Tree A) → Named A
  named_of [] = no_named
  named_of (e ∷ es) = named e.0 e.1 (named_of es)
