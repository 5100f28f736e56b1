-- Slots, and the ids that stand in their places.
use Rattle.std.specs.Prelude.{ℕ, Bool, true, false, ◌||◌, List, Option, Some, None}
use Rattle.policy_values.specs.declared.entity_uid.EntityUID.{EntityUID}
use Rattle.policy_expressions.specs.declared.kinds.Literal.TheVariants as literal
use Rattle.policy_expressions.specs.declared.kinds.SlotId.{SlotId}
use Rattle.policy_expressions.specs.declared.kinds.SlotId.TheVariants.{Principal, Resource}
use Rattle.policy_expressions.specs.declared.kinds.SlotValues.{SlotValues}
use Rattle.policy_expressions.specs.Tree.{Tree, lit, var, slot, ite, conj, disj, unary, binary, attr, has, like, is_type, call, set, rec, Trees, no_trees, tree, Named, no_named, named}

-- the id for a slot, where there is one
abbrev pub value_of : SlotValues → SlotId → Option EntityUID
value_of w Principal = w.principal
value_of w Resource = w.resource

module _ {A : Type 0} where
  -- some part is a slot
  abbrev mutual
    pub has_slot : Tree A → Bool
    has_slot (lit l a) = false
    has_slot (var v a) = false
    has_slot (slot i a) = true
    has_slot (ite x y z a) = has_slot x || (has_slot y || has_slot z)
    has_slot (conj x y a) = has_slot x || has_slot y
    has_slot (disj x y a) = has_slot x || has_slot y
    has_slot (unary o x a) = has_slot x
    has_slot (binary o x y a) = has_slot x || has_slot y
    has_slot (attr x n a) = has_slot x
    has_slot (has x n a) = has_slot x
    has_slot (like x p a) = has_slot x
    has_slot (is_type x t a) = has_slot x
    has_slot (call f xs a) = some_has_slot xs
    has_slot (set xs a) = some_has_slot xs
    has_slot (rec xs a) = some_named_has_slot xs

    pub some_has_slot : Trees A → Bool
    some_has_slot no_trees = false
    some_has_slot (tree x xs) = has_slot x || some_has_slot xs

    pub some_named_has_slot : Named A → Bool
    some_named_has_slot no_named = false
    some_named_has_slot (named k x xs) = has_slot x || some_named_has_slot xs

  -- the literal in the place of a slot; without an id the slot stays
  abbrev pub in_place : Option EntityUID → SlotId → A → Tree A
  in_place (Some u) i a = lit (literal.EntityUID u) a
  in_place None i a = slot i a

  -- each slot that has an id replaced by its literal, with the mark of the slot
  abbrev mutual
    pub filled : SlotValues → Tree A → Tree A
    filled w (lit l a) = lit l a
    filled w (var v a) = var v a
    filled w (slot i a) = in_place (value_of w i) i a
    filled w (ite x y z a) = ite (filled w x) (filled w y) (filled w z) a
    filled w (conj x y a) = conj (filled w x) (filled w y) a
    filled w (disj x y a) = disj (filled w x) (filled w y) a
    filled w (unary o x a) = unary o (filled w x) a
    filled w (binary o x y a) = binary o (filled w x) (filled w y) a
    filled w (attr x n a) = attr (filled w x) n a
    filled w (has x n a) = has (filled w x) n a
    filled w (like x p a) = like (filled w x) p a
    filled w (is_type x t a) = is_type (filled w x) t a
    filled w (call f xs a) = call f (filled_all w xs) a
    filled w (set xs a) = set (filled_all w xs) a
    filled w (rec xs a) = rec (filled_named w xs) a

    pub filled_all : SlotValues → Trees A → Trees A
    filled_all w no_trees = no_trees
    filled_all w (tree x xs) = tree (filled w x) (filled_all w xs)

    pub filled_named : SlotValues → Named A → Named A
    filled_named w no_named = no_named
    filled_named w (named k x xs) = named k (filled w x) (filled_named w xs)

  abbrev pub filled_entry : SlotValues → List ℕ × Tree A → List ℕ × Tree A
  filled_entry w e = (e.0, filled w e.1)
