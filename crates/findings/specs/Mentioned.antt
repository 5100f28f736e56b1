-- The names in a condition: the ids of its literals, and the types that it tests for.
use Rattle.std.specs.Prelude.{◌||◌, not, Bool, ℕ, List, [], ◌∷◌, ◌++◌, Option, is_some}
use Rattle.policy_values.specs.declared.entity_uid.EntityUID.{EntityUID}
use Rattle.policy_values.specs.Basename.{is_action_type}
use Rattle.policy_expressions.specs.declared.kinds.Loc.{Loc}
use Rattle.policy_expressions.specs.declared.kinds.Literal.TheVariants as literal
use Rattle.policy_expressions.specs.Tree.{Tree, lit, var, slot, ite, conj, disj, unary, binary, attr, like, is_type, call, set, rec, Trees, no_trees, tree, Named, no_named, named, Mark}
use Rattle.policy_expressions.specs.Tree as core
use Rattle.schema_core.specs.Schema.{SchemaData, type_at, action_at}

-- a name in a condition: the id of a literal, or the type that `is` tests for
pub data Mentioned : Type 0 where
  an_id : EntityUID → Mentioned
  a_type : List ℕ → Mentioned

-- the type of the id, or the type itself
abbrev pub type_of : Mentioned → List ℕ
type_of (an_id uid) = uid.entity_type
type_of (a_type ty) = ty

-- all names, each with the place of its literal or of its `is`, reached or not, in the order in which
-- they stand
module _ {T : Type 0} where
  abbrev mutual
    pub names_in : Tree (Mark T) → List (Mentioned × Option Loc)
    names_in (lit (literal.EntityUID uid) a) = (an_id uid, a.loc) ∷ []
    names_in (lit l a) = []
    names_in (var v a) = []
    names_in (slot i a) = []
    names_in (ite x y z a) = names_in x ++ (names_in y ++ names_in z)
    names_in (conj x y a) = names_in x ++ names_in y
    names_in (disj x y a) = names_in x ++ names_in y
    names_in (unary o x a) = names_in x
    names_in (binary o x y a) = names_in x ++ names_in y
    names_in (attr x n a) = names_in x
    names_in (core.has x n a) = names_in x
    names_in (like x p a) = names_in x
    names_in (is_type x t a) = names_in x ++ (a_type t, a.loc) ∷ []
    names_in (call f xs a) = names_in_all xs
    names_in (set xs a) = names_in_all xs
    names_in (rec xs a) = names_in_named xs

    pub names_in_all : Trees (Mark T) → List (Mentioned × Option Loc)
    names_in_all no_trees = []
    names_in_all (tree x xs) = names_in x ++ names_in_all xs

    pub names_in_named : Named (Mark T) → List (Mentioned × Option Loc)
    names_in_named no_named = []
    names_in_named (named k x xs) = names_in x ++ names_in_named xs

-- the type is declared, or is a type of actions
abbrev pub is_known_type : SchemaData → List ℕ → Bool
is_known_type schema ty = is_some (type_at schema ty) || is_action_type ty

-- the id is none of an action, or that of a declared one
abbrev pub is_known_action : SchemaData → EntityUID → Bool
is_known_action schema uid = not (is_action_type uid.entity_type) || is_some (action_at schema uid)
