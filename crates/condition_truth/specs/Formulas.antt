-- Propositions of a typed condition: that it is true, that it is false, that it has a value.
use Rattle.std.specs.Prelude.{ℕ, Bool, true, false, not, ◌&&◌, ◌||◌, List, Option, Some}
use Rattle.schema_types.specs.declared.kinds.Primitive.TheVariants.{Bool as BoolType}
use Rattle.schema_types.specs.Ty.{Ty, true_type, false_type, primitive}
use Rattle.policy_expressions.specs.declared.kinds.Literal.{Literal}
use Rattle.policy_expressions.specs.declared.kinds.Literal.TheVariants as literal
use Rattle.policy_expressions.specs.declared.kinds.UnaryOp.{UnaryOp}
use Rattle.policy_expressions.specs.declared.kinds.UnaryOp.TheVariants.{Not, Neg, IsEmpty}
use Rattle.policy_expressions.specs.declared.kinds.BinaryOp.{BinaryOp}
use Rattle.policy_expressions.specs.declared.kinds.BinaryOp.TheVariants.{Add, Sub, Mul, GetTag, HasTag}
use Rattle.policy_expressions.specs.Tree.{lit, var, slot, ite, conj, disj, unary, binary, attr, has, like, is_type, call, set, rec, Trees, no_trees, tree, Named, no_named, named, Mark, mark_of}
use Rattle.typing_spec.specs.Typing.{Typed}

pub data Atom : Type 0 where
  -- the expression evaluates to true
  is_true : Typed → Atom
  -- the expression has a value with the attribute, or with the tag
  has_attr : Typed → List ℕ → Atom
  has_tag : Typed → Typed → Atom
  -- the expression does not end with an overflow
  fits : Typed → Atom

pub data Formula : Type 0 where
  constant : Bool → Formula
  atom : Atom → Formula
  no : Formula → Formula
  and : Formula → Formula → Formula
  or : Formula → Formula → Formula

abbrev pub holds : (Atom → Bool) → Formula → Bool
holds a (constant b) = b
holds a (atom x) = a x
holds a (no p) = not (holds a p)
holds a (and p r) = holds a p && holds a r
holds a (or p r) = holds a p || holds a r

-- what says that an expression is true, is false, has a value
pub record Truth : Type 0 where
  pub if_true : Formula
  pub if_false : Formula
  pub if_value : Formula

abbrev pub says : Formula → Formula → Formula → Truth
says t f v = record { if_true = t; if_false = f; if_value = v }

-- of a test that has a value exactly where v holds, and is true where p holds, too; what its type says
-- is known
abbrev pub noted : Option Ty → Formula → Formula → Truth
noted (Some true_type) v p = says v (constant false) v
noted (Some false_type) v p = says (constant false) v v
noted (Some (primitive BoolType)) v p = says (and v p) (and v (no p)) v
noted n v p = says (constant false) (constant false) v

-- of an expression of which only that it is true is asked, by what says that it has a value
abbrev pub asked : Typed → Formula → Truth
asked e v = noted (mark_of e).note v (atom (is_true e))

-- of a boolean
abbrev pub boolean : Formula → Formula → Truth
boolean t f = says t f (or t f)

abbrev pub literal_truth : Literal → Truth
literal_truth (literal.Bool b) = says (constant b) (constant (not b)) (constant true)
literal_truth l = says (constant false) (constant false) (constant true)

abbrev pub if_truth : Truth → Truth → Truth → Truth
if_truth a b c = says (or (and a.if_true b.if_true) (and a.if_false c.if_true))
    (or (and a.if_true b.if_false) (and a.if_false c.if_false))
    (or (and a.if_true b.if_value) (and a.if_false c.if_value))

abbrev pub and_truth : Truth → Truth → Truth
and_truth a b = boolean (and a.if_true b.if_true) (or a.if_false (and a.if_true b.if_false))

abbrev pub or_truth : Truth → Truth → Truth
or_truth a b = boolean (or a.if_true (and a.if_false b.if_true)) (and a.if_false b.if_false)

abbrev pub unary_truth : UnaryOp → Typed → Truth → Truth
unary_truth Not e a = boolean a.if_false a.if_true
unary_truth Neg e a = asked e (and a.if_value (atom (fits e)))
unary_truth IsEmpty e a = asked e a.if_value

abbrev pub binary_truth : BinaryOp → Typed → Typed → Typed → Formula → Truth
binary_truth Add x y e v = asked e (and v (atom (fits e)))
binary_truth Sub x y e v = asked e (and v (atom (fits e)))
binary_truth Mul x y e v = asked e (and v (atom (fits e)))
binary_truth GetTag x y e v = asked e (and v (atom (has_tag x y)))
binary_truth HasTag x y e v = noted (mark_of e).note v (atom (has_tag x y))
binary_truth o x y e v = asked e v

abbrev mutual
  pub truth : Typed → Truth
  truth (lit l m) = literal_truth l
  truth (var v m) = says (constant false) (constant false) (constant true)
  truth (slot i m) = says (constant false) (constant false) (constant false)
  truth (ite x y z m) = if_truth (truth x) (truth y) (truth z)
  truth (conj x y m) = and_truth (truth x) (truth y)
  truth (disj x y m) = or_truth (truth x) (truth y)
  truth (unary o x m) = unary_truth o (unary o x m) (truth x)
  truth (binary o x y m) = binary_truth o x y (binary o x y m) (and (truth x).if_value (truth y).if_value)
  truth (attr x n m) = asked (attr x n m) (and (truth x).if_value (atom (has_attr x n)))
  truth (has x n m) = noted m.note (truth x).if_value (atom (has_attr x n))
  truth (like x p m) = asked (like x p m) (truth x).if_value
  truth (is_type x n m) = asked (is_type x n m) (truth x).if_value
  truth (call f xs m) = asked (call f xs m) (and (values_all xs) (atom (fits (call f xs m))))
  truth (set xs m) = says (constant false) (constant false) (values_all xs)
  truth (rec xs m) = says (constant false) (constant false) (values_named xs)

  pub values_all : Trees (Mark (Option Ty)) → Formula
  values_all no_trees = constant true
  values_all (tree x xs) = and (truth x).if_value (values_all xs)

  pub values_named : Named (Mark (Option Ty)) → Formula
  values_named no_named = constant true
  values_named (named k x xs) = and (truth x).if_value (values_named xs)
