-- Propositions of a typed condition in outline: that it is true and that it is false, by its `if`, `&&`,
-- `||` and `!`; of every other part it is asked whether it has a value, and whether it is true.
use Rattle.std.specs.Prelude.{Bool, true, false, not, ◌&&◌, ◌||◌, Option, Some}
use Rattle.schema_types.specs.declared.kinds.Primitive.TheVariants.{Bool as BoolType}
use Rattle.schema_types.specs.Ty.{Ty, true_type, false_type, primitive}
use Rattle.policy_expressions.specs.declared.kinds.Literal.TheVariants as literal
use Rattle.policy_expressions.specs.declared.kinds.UnaryOp.TheVariants.{Not, Neg, IsEmpty}
use Rattle.policy_expressions.specs.declared.kinds.BinaryOp.{BinaryOp}
use Rattle.policy_expressions.specs.declared.kinds.BinaryOp.TheVariants.{Add, Sub, Mul, GetTag}
use Rattle.policy_expressions.specs.Tree.{lit, var, slot, ite, conj, disj, unary, binary, attr, has, like, is_type, call, set, rec, Trees, no_trees, tree, Mark, mark_of}
use Rattle.typing_spec.specs.Typing.{Typed}

-- sums, differences, products and `getTag` may err
abbrev pub is_sure_operator : BinaryOp → Bool
is_sure_operator Add = false
is_sure_operator Sub = false
is_sure_operator Mul = false
is_sure_operator GetTag = false
is_sure_operator o = true

-- whether it is a test without `.`, `getTag`, arithmetic and calls of functions, or a part of one: it
-- never errs
abbrev mutual
  pub is_sure : Typed → Bool
  is_sure (lit l m) = true
  is_sure (var v m) = true
  is_sure (slot i m) = false
  is_sure (ite x y z m) = false
  is_sure (conj x y m) = false
  is_sure (disj x y m) = false
  is_sure (unary Not x m) = false
  is_sure (unary Neg x m) = false
  is_sure (unary IsEmpty x m) = is_sure x
  is_sure (binary o x y m) = is_sure_operator o && (is_sure x && is_sure y)
  is_sure (attr x n m) = false
  is_sure (has x n m) = is_sure x
  is_sure (like x p m) = is_sure x
  is_sure (is_type x t m) = is_sure x
  is_sure (call f xs m) = false
  is_sure (set xs m) = are_sure xs
  is_sure (rec xs m) = false

  pub are_sure : Trees (Mark (Option Ty)) → Bool
  are_sure no_trees = true
  are_sure (tree x xs) = is_sure x && are_sure xs

-- what is asked of a part: whether it has a value, and whether it is true
pub data Asked : Type 0 where
  has_value : Typed → Asked
  is_true : Typed → Asked

-- that something is true, and that it is false
pub record Sides : Type 0 where
  pub yes : Bool
  pub no : Bool

abbrev pub sides : Bool → Bool → Sides
sides t f = record { yes = t; no = f }

abbrev pub if_sides : Sides → Sides → Sides → Sides
if_sides a b c = sides ((a.yes && b.yes) || (a.no && c.yes)) ((a.yes && b.no) || (a.no && c.no))

abbrev pub and_sides : Sides → Sides → Sides
and_sides a b = sides (a.yes && b.yes) (a.no || (a.yes && b.no))

abbrev pub or_sides : Sides → Sides → Sides
or_sides a b = sides (a.yes || (a.no && b.yes)) (a.no && b.no)

abbrev pub not_sides : Sides → Sides
not_sides a = sides a.no a.yes

-- of a part, by its type, by whether it has a value and by whether it is true
abbrev pub part_sides : Option Ty → Bool → Bool → Sides
part_sides (Some true_type) v t = sides v false
part_sides (Some false_type) v t = sides false v
part_sides (Some (primitive BoolType)) v t = sides (v && t) (v && not t)
part_sides n v t = sides false false

module _ (a : Asked → Bool) where
  -- whether a part has a value; what is sure has one
  abbrev pub value_of : Typed → Bool
  value_of e = is_sure e || a (has_value e)

  abbrev pub part : Typed → Sides
  part e = part_sides (mark_of e).note (value_of e) (a (is_true e))

  -- of a condition, where a says what holds of its parts
  abbrev pub outline : Typed → Sides
  outline (lit (literal.Bool b) m) = sides b (not b)
  outline (lit l m) = sides false false
  outline (ite x y z m) = if_sides (outline x) (outline y) (outline z)
  outline (conj x y m) = and_sides (outline x) (outline y)
  outline (disj x y m) = or_sides (outline x) (outline y)
  outline (unary Not x m) = not_sides (outline x)
  outline e = part e
