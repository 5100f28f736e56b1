-- Expressions are stored as trees of numbers.
use Rattle.std.specs.Prelude.{◌≡◌, ℕ, List, Option, refl}
use Rattle.std.specs.Coded.{Coded, coded_ℕ, coded_list, coded_option, coded×, code_by}
use Rattle.std.proofs.Common.{arith, ap}
use base.Stored.{Gv, gnil, gnum, gcons, num}
use Rattle.policy_values.specs.Gv.{head, tail}
use Rattle.policy_expressions.specs.declared.kinds.Loc.{Loc}
use Rattle.policy_expressions.specs.contracts.kinds.Loc.{the_row as loc_row}
use Rattle.policy_expressions.specs.contracts.kinds.Literal.{the_row as literal_row}
use Rattle.policy_expressions.specs.contracts.kinds.Var.{the_row as var_row}
use Rattle.policy_expressions.specs.contracts.kinds.SlotId.{the_row as slot_row}
use Rattle.policy_expressions.specs.contracts.kinds.PatternElem.{the_row as element_row}
use Rattle.policy_expressions.specs.declared.kinds.PatternElem.{PatternElem}
use Rattle.policy_expressions.specs.contracts.kinds.UnaryOp.{the_row as unary_row}
use Rattle.policy_expressions.specs.contracts.kinds.BinaryOp.{the_row as binary_row}
use Rattle.policy_expressions.specs.Tree.{Tree, lit, var, slot, ite, conj, disj, unary, binary, attr, has, like, is_type, call, set, rec, Trees, no_trees, tree, Named, no_named, named, Mark}

abbrev text : Coded (List ℕ)
text = coded_list coded_ℕ

abbrev pattern : Coded (List PatternElem)
pattern = coded_list element_row.coded

abbrev pub coded_mark : {T : Type 0} → Coded T → Coded (Mark T)
coded_mark {T} c = code_by (T × Option Loc) (coded× c (coded_option loc_row.coded))
    (λ m. (m.note, m.loc)) (λ p. record { note = p.0; loc = p.1 }) (λ _. refl)

module _ {A : Type 0} (c : Coded A) where
  abbrev mutual
    pub code : Tree A → Gv
    code (lit l a) = gcons (gnum 0) (gcons (literal_row.coded.code l) (c.code a))
    code (var v a) = gcons (gnum 1) (gcons (var_row.coded.code v) (c.code a))
    code (ite x y z a) = gcons (gnum 2) (gcons (gcons (code x) (gcons (code y) (code z))) (c.code a))
    code (conj x y a) = gcons (gnum 3) (gcons (gcons (code x) (code y)) (c.code a))
    code (disj x y a) = gcons (gnum 4) (gcons (gcons (code x) (code y)) (c.code a))
    code (unary o x a) = gcons (gnum 5) (gcons (gcons (unary_row.coded.code o) (code x)) (c.code a))
    code (binary o x y a) =
        gcons (gnum 6) (gcons (gcons (binary_row.coded.code o) (gcons (code x) (code y))) (c.code a))
    code (attr x n a) = gcons (gnum 7) (gcons (gcons (code x) (text.code n)) (c.code a))
    code (has x n a) = gcons (gnum 8) (gcons (gcons (code x) (text.code n)) (c.code a))
    code (set xs a) = gcons (gnum 9) (gcons (codes xs) (c.code a))
    code (rec xs a) = gcons (gnum 10) (gcons (codes_named xs) (c.code a))
    code (slot i a) = gcons (gnum 11) (gcons (slot_row.coded.code i) (c.code a))
    code (like x p a) = gcons (gnum 12) (gcons (gcons (code x) (pattern.code p)) (c.code a))
    code (is_type x t a) = gcons (gnum 13) (gcons (gcons (code x) (text.code t)) (c.code a))
    code (call f xs a) = gcons (gnum 14) (gcons (gcons (text.code f) (codes xs)) (c.code a))

    pub codes : Trees A → Gv
    codes no_trees = gnil
    codes (tree x xs) = gcons (code x) (codes xs)

    pub codes_named : Named A → Gv
    codes_named no_named = gnil
    codes_named (named k x xs) = gcons (gcons (text.code k) (code x)) (codes_named xs)

  mutual
    pub inj : (x y : Tree A) → code x ≡ code y → x ≡ y
    inj (lit l a) (lit m b) p = λ i. lit (literal_row.coded.inj l m (ap (λ g. head (tail g)) p) i)
        (c.inj a b (ap (λ g. tail (tail g)) p) i)
    inj (var l a) (var m b) p = λ i. var (var_row.coded.inj l m (ap (λ g. head (tail g)) p) i)
        (c.inj a b (ap (λ g. tail (tail g)) p) i)
    inj (ite x y z a) (ite x' y' z' b) p = λ i. ite (inj x x' (ap (λ g. head (head (tail g))) p) i)
        (inj y y' (ap (λ g. head (tail (head (tail g)))) p) i)
        (inj z z' (ap (λ g. tail (tail (head (tail g)))) p) i) (c.inj a b (ap (λ g. tail (tail g)) p) i)
    inj (conj x y a) (conj x' y' b) p = λ i. conj (inj x x' (ap (λ g. head (head (tail g))) p) i)
        (inj y y' (ap (λ g. tail (head (tail g))) p) i) (c.inj a b (ap (λ g. tail (tail g)) p) i)
    inj (disj x y a) (disj x' y' b) p = λ i. disj (inj x x' (ap (λ g. head (head (tail g))) p) i)
        (inj y y' (ap (λ g. tail (head (tail g))) p) i) (c.inj a b (ap (λ g. tail (tail g)) p) i)
    inj (unary o x a) (unary o' x' b) p =
        λ i. unary (unary_row.coded.inj o o' (ap (λ g. head (head (tail g))) p) i)
        (inj x x' (ap (λ g. tail (head (tail g))) p) i) (c.inj a b (ap (λ g. tail (tail g)) p) i)
    inj (binary o x y a) (binary o' x' y' b) p =
        λ i. binary (binary_row.coded.inj o o' (ap (λ g. head (head (tail g))) p) i)
        (inj x x' (ap (λ g. head (tail (head (tail g)))) p) i)
        (inj y y' (ap (λ g. tail (tail (head (tail g)))) p) i) (c.inj a b (ap (λ g. tail (tail g)) p) i)
    inj (attr x n a) (attr x' n' b) p = λ i. attr (inj x x' (ap (λ g. head (head (tail g))) p) i)
        (text.inj n n' (ap (λ g. tail (head (tail g))) p) i) (c.inj a b (ap (λ g. tail (tail g)) p) i)
    inj (has x n a) (has x' n' b) p = λ i. has (inj x x' (ap (λ g. head (head (tail g))) p) i)
        (text.inj n n' (ap (λ g. tail (head (tail g))) p) i) (c.inj a b (ap (λ g. tail (tail g)) p) i)
    inj (set xs a) (set ys b) p =
        λ i. set (injs xs ys (ap (λ g. head (tail g)) p) i) (c.inj a b (ap (λ g. tail (tail g)) p) i)
    inj (rec xs a) (rec ys b) p =
        λ i. rec (inj_named xs ys (ap (λ g. head (tail g)) p) i) (c.inj a b (ap (λ g. tail (tail g)) p) i)
    inj (slot l a) (slot m b) p = λ i. slot (slot_row.coded.inj l m (ap (λ g. head (tail g)) p) i)
        (c.inj a b (ap (λ g. tail (tail g)) p) i)
    inj (like x n a) (like x' n' b) p = λ i. like (inj x x' (ap (λ g. head (head (tail g))) p) i)
        (pattern.inj n n' (ap (λ g. tail (head (tail g))) p) i) (c.inj a b (ap (λ g. tail (tail g)) p) i)
    inj (is_type x n a) (is_type x' n' b) p = λ i. is_type (inj x x' (ap (λ g. head (head (tail g))) p) i)
        (text.inj n n' (ap (λ g. tail (head (tail g))) p) i) (c.inj a b (ap (λ g. tail (tail g)) p) i)
    inj (call f xs a) (call g ys b) p = λ i. call (text.inj f g (ap (λ g. head (head (tail g))) p) i)
        (injs xs ys (ap (λ g. tail (head (tail g))) p) i) (c.inj a b (ap (λ g. tail (tail g)) p) i)
    inj x y p = absurd (omega (arith, ap (λ g. num (head g)) p))

    pub injs : (xs ys : Trees A) → codes xs ≡ codes ys → xs ≡ ys
    injs no_trees no_trees p = refl
    injs (tree x xs) (tree y ys) p = λ i. tree (inj x y (ap head p) i) (injs xs ys (ap tail p) i)
    injs no_trees (tree y ys) p = cc
    injs (tree x xs) no_trees p = cc

    pub inj_named : (xs ys : Named A) → codes_named xs ≡ codes_named ys → xs ≡ ys
    inj_named no_named no_named p = refl
    inj_named (named k x xs) (named l y ys) p = λ i. named (text.inj k l (ap (λ g. head (head g)) p) i)
        (inj x y (ap (λ g. tail (head g)) p) i) (inj_named xs ys (ap tail p) i)
    inj_named no_named (named l y ys) p = cc
    inj_named (named k x xs) no_named p = cc

  abbrev pub coded_tree : Coded (Tree A)
  coded_tree = record { code = code; inj = inj }
