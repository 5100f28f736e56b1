-- Expressions that differ in marks at most.
use Rattle.std.specs.Prelude.{◌≡◌}
use Rattle.policy_expressions.specs.Tree.{Tree, lit, var, slot, ite, conj, disj, unary, binary, attr, has, like, is_type, call, set, rec, Trees, no_trees, tree, Named, no_named, named}

module _ {A B : Type 0} where
  abbrev mutual
    pub SameShape : Tree A → Tree B → Type 0
    SameShape (lit l a) (lit m b) = l ≡ m
    SameShape (var v a) (var w b) = v ≡ w
    SameShape (slot i a) (slot j b) = i ≡ j
    SameShape (ite x y z a) (ite u v w b) = SameShape x u × SameShape y v × SameShape z w
    SameShape (conj x y a) (conj u v b) = SameShape x u × SameShape y v
    SameShape (disj x y a) (disj u v b) = SameShape x u × SameShape y v
    SameShape (unary o x a) (unary p u b) = (o ≡ p) × SameShape x u
    SameShape (binary o x y a) (binary p u v b) = (o ≡ p) × SameShape x u × SameShape y v
    SameShape (attr x m a) (attr u n b) = SameShape x u × (m ≡ n)
    SameShape (has x m a) (has u n b) = SameShape x u × (m ≡ n)
    SameShape (like x p a) (like u q b) = SameShape x u × (p ≡ q)
    SameShape (is_type x s a) (is_type u t b) = SameShape x u × (s ≡ t)
    SameShape (call f xs a) (call g us b) = (f ≡ g) × SameShapes xs us
    SameShape (set xs a) (set us b) = SameShapes xs us
    SameShape (rec xs a) (rec us b) = SameNamed xs us
    SameShape x u = ⊥

    pub SameShapes : Trees A → Trees B → Type 0
    SameShapes no_trees no_trees = Unit {0}
    SameShapes (tree x xs) (tree u us) = SameShape x u × SameShapes xs us
    SameShapes xs us = ⊥

    pub SameNamed : Named A → Named B → Type 0
    SameNamed no_named no_named = Unit {0}
    SameNamed (named m x xs) (named n u us) = (m ≡ n) × SameShape x u × SameNamed xs us
    SameNamed xs us = ⊥
