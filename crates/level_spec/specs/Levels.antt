-- Dereference levels of typed expressions.
use Rattle.std.specs.Prelude.{ℕ, ◌+◌, max, nat_lt, Bool, true, false, List, [], ◌∷◌, ◌++◌, Option, Some, None, is_some, option_map, if◌then◌else◌}
use Rattle.std.specs.List.{list_all}
use Rattle.std.specs.Option.{option_map_or, option_and_then}
use Rattle.std.specs.Ordering.{is_eq}
use Rattle.policy_values.specs.declared.entity_uid.EntityUID.{EntityUID}
use Rattle.policy_values.specs.Uid.{text_cmp, uid_eq}
use Rattle.type_relations.specs.Join.{is_entity}
use Rattle.schema_types.specs.Ty.{Ty}
use Rattle.policy_expressions.specs.declared.kinds.Literal.{Literal}
use Rattle.policy_expressions.specs.declared.kinds.Literal.TheVariants as literal
use Rattle.policy_expressions.specs.declared.kinds.BinaryOp.{BinaryOp}
use Rattle.policy_expressions.specs.declared.kinds.BinaryOp.TheVariants.{In, GetTag, HasTag}
use Rattle.policy_expressions.specs.Tree.{lit, var, slot, ite, conj, disj, unary, binary, attr, has, like, is_type, call, set, rec, Trees, no_trees, tree, Named, no_named, named, Mark, mark_of}
use Rattle.typing_spec.specs.Typing.{Typed}

-- a part that is reached has a type
abbrev pub is_reached : Typed → Bool
is_reached e = is_some (mark_of e).note

-- the expression is typed as an entity
abbrev pub gives_entity : Typed → Bool
gives_entity e = option_map_or is_entity (mark_of e).note false

-- the greater level, where both are there
abbrev pub greater : Option ℕ → Option ℕ → Option ℕ
greater (Some j) (Some k) = Some (max j k)
greater j k = None

-- `if`, by which of its branches are reached: the greatest level of those that are
abbrev pub if_level : Bool → Bool → Option ℕ → Option ℕ → Option ℕ
if_level true true j k = greater j k
if_level true false j k = j
if_level false true j k = k
if_level false false j k = Some 0

-- one step further
abbrev pub one_more : Option ℕ → Option ℕ
one_more o = option_map (λ k. k + 1) o

-- of the operators of two operands only `getTag` gives what it found
abbrev pub binary_level : BinaryOp → Option ℕ → Option ℕ
binary_level GetTag k = one_more k
binary_level o k = None

-- `in`, `hasTag` and `getTag` ask the store about their left operand
abbrev pub asks_store : BinaryOp → Bool
asks_store In = true
asks_store HasTag = true
asks_store GetTag = true
asks_store o = false

-- the level of the left operand, where it is dereferenced
abbrev pub level_if : Bool → Option ℕ → List (Option ℕ)
level_if true o = o ∷ []
level_if false o = []

-- there is a level, and it is below the maximum
abbrev pub is_below : ℕ → Option ℕ → Bool
is_below n o = option_map_or (λ k. nat_lt k n) o false

-- one more than the greatest of the levels, where there are all
abbrev pub least : List (Option ℕ) → Option ℕ
least [] = Some 0
least (o ∷ os) = greater (one_more o) (least os)

-- by the environment's action, where it is known
module _ (action : Option EntityUID) where
  -- of the literals only the environment's action has a level
  abbrev pub literal_level : Literal → Option ℕ
  literal_level (literal.EntityUID u) = option_and_then (λ a. if uid_eq u a then Some 0 else None) action
  literal_level l = None

  -- how many steps from the request the ids are that an expression gives, or those under the pending fields
  -- of the record that it gives; none where that cannot be reported
  abbrev mutual
    pub level : Typed → List (List ℕ) → Option ℕ
    level (lit l a) fs = literal_level l
    level (var v a) fs = Some 0
    level (ite x y z a) fs = if_level (is_reached y) (is_reached z) (level y fs) (level z fs)
    level (binary o x y a) fs = binary_level o (level x [])
    level (attr x n a) fs = if gives_entity x then one_more (level x []) else level x (n ∷ fs)
    level (rec xs a) fs = level_under xs fs
    level e fs = None

    -- that of the first pending field
    pub level_under : Named (Mark (Option Ty)) → List (List ℕ) → Option ℕ
    level_under no_named fs = None
    level_under (named k x xs) [] = None
    level_under (named k x xs) (n ∷ fs) = if is_eq (text_cmp n k) then level x fs else level_under xs (n ∷ fs)

  -- the level of the left operand of each dereference; what is not reached has none
  abbrev mutual
    pub dereferences : Typed → List (Option ℕ)
    dereferences (lit l a) = []
    dereferences (var v a) = []
    dereferences (slot i a) = []
    dereferences (ite x y z a) = dereferences x ++ (dereferences y ++ dereferences z)
    dereferences (conj x y a) = dereferences x ++ dereferences y
    dereferences (disj x y a) = dereferences x ++ dereferences y
    dereferences (unary o x a) = dereferences x
    dereferences (binary o x y a) = level_if (asks_store o) (level x []) ++ (dereferences x ++ dereferences y)
    dereferences (attr x n a) = level_if (gives_entity x) (level x []) ++ dereferences x
    dereferences (has x n a) = level_if (gives_entity x) (level x []) ++ dereferences x
    dereferences (like x p a) = dereferences x
    dereferences (is_type x t a) = dereferences x
    dereferences (call f xs a) = dereferences_all xs
    dereferences (set xs a) = dereferences_all xs
    dereferences (rec xs a) = dereferences_named xs

    pub dereferences_all : Trees (Mark (Option Ty)) → List (Option ℕ)
    dereferences_all no_trees = []
    dereferences_all (tree x xs) = dereferences x ++ dereferences_all xs

    pub dereferences_named : Named (Mark (Option Ty)) → List (Option ℕ)
    dereferences_named no_named = []
    dereferences_named (named k x xs) = dereferences x ++ dereferences_named xs

  -- each dereference has a left operand with a level, below the maximum
  abbrev pub passes : ℕ → Typed → Bool
  passes n e = list_all (is_below n) (dereferences e)

  -- the least level at which an expression passes; none where it passes at none
  abbrev pub least_level : Typed → Option ℕ
  least_level e = least (dereferences e)
