-- Answers are equal where their expressions differ in places at most, and where they know the same.
use Rattle.std.specs.Prelude.{◌≡◌, Bool, ◌&&◌, None}
use Rattle.std.specs.Bool.{beq}
use Rattle.std.specs.Coded.{Coded, coded_option}
use Rattle.typing_spec.specs.Bare.{same_stored}
use Rattle.typing_spec.specs.Capability.{same_known}
use Rattle.policy_expressions.specs.Tree.{Tree, lit, var, slot, ite, conj, disj, unary, binary, attr, has, like, is_type, call, set, rec, Trees, no_trees, tree, Named, no_named, named, Mark, mark_of}
use Rattle.policy_expressions.specs.Shape.{SameShape}
use Rattle.policy_expressions.specs.TreeCode.{coded_tree, coded_mark}
use Rattle.schema_types.specs.TyCode.{coded_ty}
use Rattle.policy_typecheck.specs.TypecheckAnswer.{Typed, expr_of, is_success, known_of}
use Rattle.policy_typecheck.specs.declared.answer.TypecheckAnswer.{TypecheckAnswer}

module _ {T : Type 0} where
  -- the note alone
  abbrev pub unplaced_mark : Mark T → Mark T
  unplaced_mark a = record { note = a.note; loc = None }

  -- the same expression, of which nothing says where it stands
  abbrev mutual
    pub unplaced : Tree (Mark T) → Tree (Mark T)
    unplaced (lit l a) = lit l (unplaced_mark a)
    unplaced (var v a) = var v (unplaced_mark a)
    unplaced (slot i a) = slot i (unplaced_mark a)
    unplaced (ite x y z a) = ite (unplaced x) (unplaced y) (unplaced z) (unplaced_mark a)
    unplaced (conj x y a) = conj (unplaced x) (unplaced y) (unplaced_mark a)
    unplaced (disj x y a) = disj (unplaced x) (unplaced y) (unplaced_mark a)
    unplaced (unary o x a) = unary o (unplaced x) (unplaced_mark a)
    unplaced (binary o x y a) = binary o (unplaced x) (unplaced y) (unplaced_mark a)
    unplaced (attr x n a) = attr (unplaced x) n (unplaced_mark a)
    unplaced (has x n a) = has (unplaced x) n (unplaced_mark a)
    unplaced (like x p a) = like (unplaced x) p (unplaced_mark a)
    unplaced (is_type x t a) = is_type (unplaced x) t (unplaced_mark a)
    unplaced (call f xs a) = call f (unplaced_trees xs) (unplaced_mark a)
    unplaced (set xs a) = set (unplaced_trees xs) (unplaced_mark a)
    unplaced (rec xs a) = rec (unplaced_named xs) (unplaced_mark a)

    pub unplaced_trees : Trees (Mark T) → Trees (Mark T)
    unplaced_trees no_trees = no_trees
    unplaced_trees (tree x xs) = tree (unplaced x) (unplaced_trees xs)

    pub unplaced_named : Named (Mark T) → Named (Mark T)
    unplaced_named no_named = no_named
    unplaced_named (named k x xs) = named k (unplaced x) (unplaced_named xs)

  -- the same note at the top
  abbrev pub SameNote : Tree (Mark T) → Tree (Mark T) → Type 0
  SameNote x u = (mark_of x).note ≡ (mark_of u).note

  -- the same notes at the same parts below the top, of expressions of one shape
  abbrev mutual
    pub SameBelow : Tree (Mark T) → Tree (Mark T) → Type 0
    SameBelow (lit l a) (lit m b) = Unit {0}
    SameBelow (var v a) (var w b) = Unit {0}
    SameBelow (slot i a) (slot j b) = Unit {0}
    SameBelow (ite x y z a) (ite u v w b) =
        (SameNote x u × SameBelow x u) × (SameNote y v × SameBelow y v) × (SameNote z w × SameBelow z w)
    SameBelow (conj x y a) (conj u v b) = (SameNote x u × SameBelow x u) × (SameNote y v × SameBelow y v)
    SameBelow (disj x y a) (disj u v b) = (SameNote x u × SameBelow x u) × (SameNote y v × SameBelow y v)
    SameBelow (unary o x a) (unary p u b) = SameNote x u × SameBelow x u
    SameBelow (binary o x y a) (binary p u v b) =
        (SameNote x u × SameBelow x u) × (SameNote y v × SameBelow y v)
    SameBelow (attr x m a) (attr u n b) = SameNote x u × SameBelow x u
    SameBelow (has x m a) (has u n b) = SameNote x u × SameBelow x u
    SameBelow (like x p a) (like u q b) = SameNote x u × SameBelow x u
    SameBelow (is_type x s a) (is_type u t b) = SameNote x u × SameBelow x u
    SameBelow (call f xs a) (call g us b) = SameOfTrees xs us
    SameBelow (set xs a) (set us b) = SameOfTrees xs us
    SameBelow (rec xs a) (rec us b) = SameOfNamed xs us
    SameBelow x u = ⊥

    pub SameOfTrees : Trees (Mark T) → Trees (Mark T) → Type 0
    SameOfTrees no_trees no_trees = Unit {0}
    SameOfTrees (tree x xs) (tree u us) = (SameNote x u × SameBelow x u) × SameOfTrees xs us
    SameOfTrees xs us = ⊥

    pub SameOfNamed : Named (Mark T) → Named (Mark T) → Type 0
    SameOfNamed no_named no_named = Unit {0}
    SameOfNamed (named m x xs) (named n u us) = (SameNote x u × SameBelow x u) × SameOfNamed xs us
    SameOfNamed xs us = ⊥

  -- the same notes at the same parts
  abbrev pub SameNotes : Tree (Mark T) → Tree (Mark T) → Type 0
  SameNotes x u = SameNote x u × SameBelow x u

  -- the expressions differ in places at most
  abbrev pub SameTyped : Tree (Mark T) → Tree (Mark T) → Type 0
  SameTyped x u = SameShape x u × SameNotes x u

-- typed expressions are stored as trees of numbers
abbrev pub coded_typed : Coded Typed
coded_typed = coded_tree (coded_mark (coded_option coded_ty))

-- two typed expressions differ in places at most: without these they are stored as one tree of numbers
abbrev pub same_typed : Typed → Typed → Bool
same_typed x y = same_stored (coded_typed.code (unplaced x)) (coded_typed.code (unplaced y))

-- answers are equal
abbrev pub same_answer : TypecheckAnswer → TypecheckAnswer → Bool
same_answer a b = beq (is_success a) (is_success b) &&
    (same_typed (expr_of a) (expr_of b) && same_known (known_of a) (known_of b))
