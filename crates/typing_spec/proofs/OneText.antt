-- Arguments that are not one.
use Rattle.std.proofs.Common.{◌≡◌, List, [], ◌∷◌, ◌<◌, ◌≤◌, length, None, refl, arith}
use Rattle.policy_expressions.specs.Tree.{Tree, lit, var, slot, ite, conj, disj, unary, binary, attr, has, like, is_type, call, set, rec, Trees, tree, trees_of}
use Rattle.policy_expressions.specs.declared.kinds.Literal.TheVariants as literal
use Rattle.typing_spec.specs.Signatures.{only_text}

module _ {A : Type 0} where
  several : (x y : Tree A) (ys : Trees A) → only_text (tree x (tree y ys)) ≡ None
  several (lit (literal.Bool b) a) y ys = refl
  several (lit (literal.Long n) a) y ys = refl
  several (lit (literal.String t) a) y ys = refl
  several (lit (literal.EntityUID u) a) y ys = refl
  several (var v a) y ys = refl
  several (slot i a) y ys = refl
  several (ite x z w a) y ys = refl
  several (conj x z a) y ys = refl
  several (disj x z a) y ys = refl
  several (unary o x a) y ys = refl
  several (binary o x z a) y ys = refl
  several (attr x n a) y ys = refl
  several (has x n a) y ys = refl
  several (like x p a) y ys = refl
  several (is_type x t a) y ys = refl
  several (call f xs a) y ys = refl
  several (set xs a) y ys = refl
  several (rec xs a) y ys = refl

  -- they hold no text alone
  pub text_of_none : (es : List (Tree A)) → length es < 1 → only_text (trees_of es) ≡ None
  text_of_none [] h = refl
  text_of_none (x ∷ es) h = absurd (omega arith)

  pub text_of_several : (es : List (Tree A)) → 2 ≤ length es → only_text (trees_of es) ≡ None
  text_of_several [] h = refl
  text_of_several (x ∷ []) h = absurd (omega arith)
  text_of_several (x ∷ y ∷ es) h = several x y (trees_of es)
