-- Expressions have one shape exactly where they are the same without their marks.
use Rattle.std.proofs.Common.{◌≡◌, ◌+◌, max, Bool, false, ◌&&◌, ap, refl, sym, subst, ◌∙◌}
use Rattle.std.specs.Bool.{Decides}
use Rattle.std.specs.Cmp.{IsEquivalence, unsigned_Decides, decided, on_equiv}
use Rattle.std.proofs.lemmas.Bool.Decides.{Decides-and, Decides-like}
use Rattle.plain_lemmas.proofs.Booleans.{equal_by_both_ways}
use Rattle.std.specs.Coded.{Coded}
use base.Stored.{Gv, gnil, gnum, gcons}
use Rattle.policy_expressions.specs.contracts.kinds.Literal.{the_row as literals}
use Rattle.policy_expressions.specs.contracts.kinds.Var.{the_row as variables}
use Rattle.policy_expressions.specs.contracts.kinds.SlotId.{the_row as slots}
use Rattle.policy_expressions.specs.contracts.kinds.UnaryOp.{the_row as unary_operators}
use Rattle.policy_expressions.specs.contracts.kinds.BinaryOp.{the_row as binary_operators}
use Rattle.policy_expressions.specs.Tree.{Tree, lit, var, slot, ite, conj, disj, unary, binary, attr, has, like, is_type, call, set, rec, Trees, no_trees, tree, Named, no_named, named, depth_of, deepest, deepest_named}
use Rattle.policy_expressions.specs.Shape.{SameShape, SameShapes, SameNamed}
use Rattle.typing_spec.specs.Bare.{bare, bare_trees, bare_named, coded_plain, same_stored, is_same, coded_text, coded_pattern, same_tree, same_trees, same_named}
use Rattle.policy_expressions.specs.Plain.{unmarked}

module _ {A B : Type 0} where
  mutual
    pub bare_alike : (x : Tree A) (u : Tree B) → SameShape x u → bare x ≡ bare u
    bare_alike (lit l a) (lit m b) h = λ i. lit (h i) unmarked
    bare_alike (var v a) (var w b) h = λ i. var (h i) unmarked
    bare_alike (slot i a) (slot j b) h = λ k. slot (h k) unmarked
    bare_alike (ite x y z a) (ite u v w b) h =
        λ i. ite (bare_alike x u h.0 i) (bare_alike y v h.1 i) (bare_alike z w h.2 i) unmarked
    bare_alike (conj x y a) (conj u v b) h = λ i. conj (bare_alike x u h.0 i) (bare_alike y v h.1 i) unmarked
    bare_alike (disj x y a) (disj u v b) h = λ i. disj (bare_alike x u h.0 i) (bare_alike y v h.1 i) unmarked
    bare_alike (unary o x a) (unary p u b) h = λ i. unary (h.0 i) (bare_alike x u h.1 i) unmarked
    bare_alike (binary o x y a) (binary p u v b) h =
        λ i. binary (h.0 i) (bare_alike x u h.1 i) (bare_alike y v h.2 i) unmarked
    bare_alike (attr x m a) (attr u n b) h = λ i. attr (bare_alike x u h.0 i) (h.1 i) unmarked
    bare_alike (has x m a) (has u n b) h = λ i. has (bare_alike x u h.0 i) (h.1 i) unmarked
    bare_alike (like x p a) (like u q b) h = λ i. like (bare_alike x u h.0 i) (h.1 i) unmarked
    bare_alike (is_type x s a) (is_type u t b) h = λ i. is_type (bare_alike x u h.0 i) (h.1 i) unmarked
    bare_alike (call f xs a) (call g us b) h = λ i. call (h.0 i) (trees_alike xs us h.1 i) unmarked
    bare_alike (set xs a) (set us b) h = λ i. set (trees_alike xs us h i) unmarked
    bare_alike (rec xs a) (rec us b) h = λ i. rec (named_alike xs us h i) unmarked
    bare_alike x u h = absurd h

    pub trees_alike : (xs : Trees A) (us : Trees B) → SameShapes xs us → bare_trees xs ≡ bare_trees us
    trees_alike no_trees no_trees h = refl
    trees_alike (tree x xs) (tree u us) h = λ i. tree (bare_alike x u h.0 i) (trees_alike xs us h.1 i)
    trees_alike xs us h = absurd h

    pub named_alike : (xs : Named A) (us : Named B) → SameNamed xs us → bare_named xs ≡ bare_named us
    named_alike no_named no_named h = refl
    named_alike (named m x xs) (named n u us) h =
        λ i. named (h.0 i) (bare_alike x u h.1 i) (named_alike xs us h.2 i)
    named_alike xs us h = absurd h

  mutual
    pub same_shape : (x : Tree A) (u : Tree B) → bare x ≡ bare u → SameShape x u
    same_shape (lit l a) (lit m b) p = cc
    same_shape (var v a) (var w b) p = cc
    same_shape (slot i a) (slot j b) p = cc
    same_shape (ite x y z a) (ite u v w b) p = (same_shape x u (cc), same_shape y v (cc), same_shape z w (cc))
    same_shape (conj x y a) (conj u v b) p = (same_shape x u (cc), same_shape y v (cc))
    same_shape (disj x y a) (disj u v b) p = (same_shape x u (cc), same_shape y v (cc))
    same_shape (unary o x a) (unary q u b) p = (cc, same_shape x u (cc))
    same_shape (binary o x y a) (binary q u v b) p = (cc, same_shape x u (cc), same_shape y v (cc))
    same_shape (attr x m a) (attr u n b) p = (same_shape x u (cc), cc)
    same_shape (has x m a) (has u n b) p = (same_shape x u (cc), cc)
    same_shape (like x q a) (like u r b) p = (same_shape x u (cc), cc)
    same_shape (is_type x s a) (is_type u t b) p = (same_shape x u (cc), cc)
    same_shape (call f xs a) (call g us b) p = (cc, same_shapes xs us (cc))
    same_shape (set xs a) (set us b) p = same_shapes xs us (cc)
    same_shape (rec xs a) (rec us b) p = named_same xs us (cc)
    same_shape x u p = cc

    pub same_shapes : (xs : Trees A) (us : Trees B) → bare_trees xs ≡ bare_trees us → SameShapes xs us
    same_shapes no_trees no_trees p = tt
    same_shapes (tree x xs) (tree u us) p = (same_shape x u (cc), same_shapes xs us (cc))
    same_shapes xs us p = cc

    pub named_same : (xs : Named A) (us : Named B) → bare_named xs ≡ bare_named us → SameNamed xs us
    named_same no_named no_named p = tt
    named_same (named m x xs) (named n u us) p = (cc, same_shape x u (cc), named_same xs us (cc))
    named_same xs us p = cc

-- the test on stored trees decides whether they are one
pub stored_decides : (x y : Gv) → Decides (same_stored x y) (x ≡ y)
stored_decides gnil gnil = (λ h. refl, λ h. refl)
stored_decides (gnum m) (gnum n) = let d = unsigned_Decides m n in (λ h. ap gnum (d.0 h), λ h. d.1 (cc))
stored_decides (gcons a b) (gcons c d) =
    Decides-like (same_stored a c && same_stored b d) (λ h i. gcons (h.0 i) (h.1 i)) (λ h. (cc, cc))
    (Decides-and (same_stored a c) (same_stored b d) (stored_decides a c) (stored_decides b d))
stored_decides x y = (λ h. absurd (cc), λ h. absurd (cc))

-- the test on stored values decides whether they are one
pub same_decides : {T : Type 0} (c : Coded T) (x y : T) → Decides (is_same c x y) (x ≡ y)
same_decides c x y =
    Decides-like (is_same c x y) (c.inj x y) (ap c.code) (stored_decides (c.code x) (c.code y))

no_match : {P : Type 0} → (P → ⊥) → Decides false P
no_match n = (λ h. absurd (cc), λ h. absurd (n h))

all_three : {P Q R : Type 0} (x y z : Bool) → Decides x P → Decides y Q → Decides z R →
    Decides (x && (y && z)) (P × Q × R)
all_three x y z d k l =
    Decides-like (x && (y && z)) (λ h. (h.0, h.1.0, h.1.1)) (λ h. (h.0, (h.1, h.2)))
    (Decides-and x (y && z) d (Decides-and y z k l))

-- the test on expressions decides whether they have one shape
module _ {A B : Type 0} where
  mutual
    pub same_tree_decides : (x : Tree A) (u : Tree B) → Decides (same_tree x u) (SameShape x u)
    same_tree_decides (lit l a) (lit m b) = same_decides literals.coded l m
    same_tree_decides (var v a) (var w b) = same_decides variables.coded v w
    same_tree_decides (slot i a) (slot j b) = same_decides slots.coded i j
    same_tree_decides (ite x y z a) (ite u v w b) =
        all_three (same_tree x u) (same_tree y v) (same_tree z w)
        (same_tree_decides x u) (same_tree_decides y v) (same_tree_decides z w)
    same_tree_decides (conj x y a) (conj u v b) =
        Decides-and (same_tree x u) (same_tree y v) (same_tree_decides x u) (same_tree_decides y v)
    same_tree_decides (disj x y a) (disj u v b) =
        Decides-and (same_tree x u) (same_tree y v) (same_tree_decides x u) (same_tree_decides y v)
    same_tree_decides (unary o x a) (unary p u b) =
        Decides-and (is_same unary_operators.coded o p) (same_tree x u)
        (same_decides unary_operators.coded o p) (same_tree_decides x u)
    same_tree_decides (binary o x y a) (binary p u v b) =
        all_three (is_same binary_operators.coded o p) (same_tree x u) (same_tree y v)
        (same_decides binary_operators.coded o p) (same_tree_decides x u) (same_tree_decides y v)
    same_tree_decides (attr x m a) (attr u n b) =
        Decides-and (same_tree x u) (is_same coded_text m n) (same_tree_decides x u) (same_decides coded_text m n)
    same_tree_decides (has x m a) (has u n b) =
        Decides-and (same_tree x u) (is_same coded_text m n) (same_tree_decides x u) (same_decides coded_text m n)
    same_tree_decides (like x p a) (like u q b) =
        Decides-and (same_tree x u) (is_same coded_pattern p q)
        (same_tree_decides x u) (same_decides coded_pattern p q)
    same_tree_decides (is_type x s a) (is_type u t b) =
        Decides-and (same_tree x u) (is_same coded_text s t) (same_tree_decides x u) (same_decides coded_text s t)
    same_tree_decides (call f xs a) (call g us b) =
        Decides-and (is_same coded_text f g) (same_trees xs us)
        (same_decides coded_text f g) (same_trees_decides xs us)
    same_tree_decides (set xs a) (set us b) = same_trees_decides xs us
    same_tree_decides (rec xs a) (rec us b) = same_named_decides xs us
    same_tree_decides x u = no_match (λ h. h)

    same_trees_decides : (xs : Trees A) (us : Trees B) → Decides (same_trees xs us) (SameShapes xs us)
    same_trees_decides no_trees no_trees = (λ h. tt, λ h. refl)
    same_trees_decides (tree x xs) (tree u us) =
        Decides-and (same_tree x u) (same_trees xs us) (same_tree_decides x u) (same_trees_decides xs us)
    same_trees_decides xs us = no_match (λ h. h)

    same_named_decides : (xs : Named A) (us : Named B) → Decides (same_named xs us) (SameNamed xs us)
    same_named_decides no_named no_named = (λ h. tt, λ h. refl)
    same_named_decides (named m x xs) (named n u us) =
        all_three (is_same coded_text m n) (same_tree x u) (same_named xs us)
        (same_decides coded_text m n) (same_tree_decides x u) (same_named_decides xs us)
    same_named_decides xs us = no_match (λ h. h)

pub same_stored_equiv : IsEquivalence same_stored
same_stored_equiv = decided same_stored stored_decides

bare_equiv : {A : Type 0} → IsEquivalence (λ (x y : Tree A). is_same coded_plain (bare x) (bare y))
bare_equiv = on_equiv (λ x. coded_plain.code (bare x)) same_stored_equiv

-- the test on expressions is that on what they are without marks
same_bare : {A : Type 0} → (x y : Tree A) → same_tree x y ≡ is_same coded_plain (bare x) (bare y)
same_bare x y =
    let d = same_tree_decides x y in
    let e = same_decides coded_plain (bare x) (bare y) in
    equal_by_both_ways (same_tree x y) (is_same coded_plain (bare x) (bare y))
    (λ h. e.1 (bare_alike x y (d.0 h))) (λ h. d.1 (same_shape x y (e.0 h)))

pub same_tree_equiv : {A : Type 0} → IsEquivalence (same_tree {A = A} {B = A})
same_tree_equiv {A} =
    subst IsEquivalence (sym (λ i x y. same_bare x y i)) (bare_equiv {A = A})

module _ {A : Type 0} where
  mutual
    pub depth_bare : (x : Tree A) → depth_of (bare x) ≡ depth_of x
    depth_bare (lit l a) = refl
    depth_bare (var v a) = refl
    depth_bare (slot i a) = refl
    depth_bare (ite x y z a) = λ i. max (depth_bare x i) (max (depth_bare y i) (depth_bare z i)) + 1
    depth_bare (conj x y a) = λ i. max (depth_bare x i) (depth_bare y i) + 1
    depth_bare (disj x y a) = λ i. max (depth_bare x i) (depth_bare y i) + 1
    depth_bare (unary o x a) = λ i. depth_bare x i + 1
    depth_bare (binary o x y a) = λ i. max (depth_bare x i) (depth_bare y i) + 1
    depth_bare (attr x n a) = λ i. depth_bare x i + 1
    depth_bare (has x n a) = λ i. depth_bare x i + 1
    depth_bare (like x p a) = λ i. depth_bare x i + 1
    depth_bare (is_type x t a) = λ i. depth_bare x i + 1
    depth_bare (call f xs a) = λ i. deepest_bare xs i + 1
    depth_bare (set xs a) = λ i. deepest_bare xs i + 1
    depth_bare (rec xs a) = λ i. named_bare xs i + 1

    deepest_bare : (xs : Trees A) → deepest (bare_trees xs) ≡ deepest xs
    deepest_bare no_trees = refl
    deepest_bare (tree x xs) = λ i. max (depth_bare x i) (deepest_bare xs i)

    named_bare : (xs : Named A) → deepest_named (bare_named xs) ≡ deepest_named xs
    named_bare no_named = refl
    named_bare (named k x xs) = λ i. max (depth_bare x i) (named_bare xs i)

-- expressions of one shape are equally deep
pub same_depth : {A B : Type 0} → (x : Tree A) (u : Tree B) → SameShape x u → depth_of x ≡ depth_of u
same_depth x u h = sym (depth_bare x) ∙ ap depth_of (bare_alike x u h) ∙ depth_bare u
