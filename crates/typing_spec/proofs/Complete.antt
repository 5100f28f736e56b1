-- Expressions without slots, each record of which has a key once.
use Rattle.std.proofs.Common.{◌≡◌, false, ◌||◌}
use Rattle.policy_expressions.specs.Slots.{has_slot, some_has_slot, some_named_has_slot}
use Rattle.policy_expressions.specs.Tree.{Tree, lit, var, slot, ite, conj, disj, unary, binary, attr, has, like, is_type, call, set, rec, Trees, no_trees, tree, Named, no_named, named}
use Rattle.policy_expressions.specs.Keys.{IsFresh, HasKeysOnce, HaveKeysOnce, AreKeysOnce}
use Rattle.plain_lemmas.proofs.Booleans.{or_false_parts}

module _ {A : Type 0} where
  abbrev mutual
    pub IsComplete : Tree A → Type 0
    IsComplete (lit l a) = Unit {0}
    IsComplete (var v a) = Unit {0}
    IsComplete (slot i a) = ⊥
    IsComplete (ite x y z a) = IsComplete x × IsComplete y × IsComplete z
    IsComplete (conj x y a) = IsComplete x × IsComplete y
    IsComplete (disj x y a) = IsComplete x × IsComplete y
    IsComplete (unary o x a) = IsComplete x
    IsComplete (binary o x y a) = IsComplete x × IsComplete y
    IsComplete (attr x n a) = IsComplete x
    IsComplete (has x n a) = IsComplete x
    IsComplete (like x p a) = IsComplete x
    IsComplete (is_type x n a) = IsComplete x
    IsComplete (call f xs a) = AreComplete xs
    IsComplete (set xs a) = AreComplete xs
    IsComplete (rec xs a) = AreCompleteNamed xs

    pub AreComplete : Trees A → Type 0
    AreComplete no_trees = Unit {0}
    AreComplete (tree x xs) = IsComplete x × AreComplete xs

    pub AreCompleteNamed : Named A → Type 0
    AreCompleteNamed no_named = Unit {0}
    AreCompleteNamed (named k x xs) = IsComplete x × IsFresh k xs × AreCompleteNamed xs

  mutual
    pub complete : (x : Tree A) → has_slot x ≡ false → HasKeysOnce x → IsComplete x
    complete (lit l a) h k = tt
    complete (var v a) h k = tt
    complete (slot i a) h k = absurd (cc)
    complete (ite x y z a) h k =
        let r = or_false_parts (has_slot x) (has_slot y || has_slot z) h in
        let t = or_false_parts (has_slot y) (has_slot z) r.1 in
        (complete x r.0 k.0, complete y t.0 k.1, complete z t.1 k.2)
    complete (conj x y a) h k = let r = or_false_parts (has_slot x) (has_slot y) h in (complete x r.0 k.0, complete y r.1 k.1)
    complete (disj x y a) h k = let r = or_false_parts (has_slot x) (has_slot y) h in (complete x r.0 k.0, complete y r.1 k.1)
    complete (unary o x a) h k = complete x h k
    complete (binary o x y a) h k = let r = or_false_parts (has_slot x) (has_slot y) h in (complete x r.0 k.0, complete y r.1 k.1)
    complete (attr x n a) h k = complete x h k
    complete (has x n a) h k = complete x h k
    complete (like x p a) h k = complete x h k
    complete (is_type x n a) h k = complete x h k
    complete (call f xs a) h k = all_complete xs h k
    complete (set xs a) h k = all_complete xs h k
    complete (rec xs a) h k = named_complete xs h k

    all_complete : (xs : Trees A) → some_has_slot xs ≡ false → HaveKeysOnce xs → AreComplete xs
    all_complete no_trees h k = tt
    all_complete (tree x xs) h k = let r = or_false_parts (has_slot x) (some_has_slot xs) h in (complete x r.0 k.0, all_complete xs r.1 k.1)

    named_complete : (xs : Named A) → some_named_has_slot xs ≡ false → AreKeysOnce xs → AreCompleteNamed xs
    named_complete no_named h k = tt
    named_complete (named l x xs) h k = let r = or_false_parts (has_slot x) (some_named_has_slot xs) h in (complete x r.0 k.0, k.1, named_complete xs r.1 k.2)
