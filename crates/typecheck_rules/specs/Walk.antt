-- The walk through an expression: its typing, or what is found. An operand that failed gives its type to the
-- operator above.
use Rattle.std.specs.Prelude.{List, [], ◌∷◌, ◌++◌}
use Rattle.schema_core.specs.Schema.{SchemaData}
use Rattle.schema_core.specs.EnvData.{EnvData}
use Rattle.policy_expressions.specs.Functions.{function_of}
use Rattle.policy_expressions.specs.Tree.{lit, var, slot, ite, conj, disj, unary, binary, attr, has, like, is_type, call, set, rec, Trees, no_trees, tree, Named, no_named, named, Mark}
use Rattle.policy_expressions.specs.Plain.{Plain}
use Rattle.typing_spec.specs.Capability.{Capability, has_cap}
use Rattle.typing_spec.specs.Environment.{type_of_literal, type_of_variable, type_of_slot}
use Rattle.typing_spec.specs.Typing.{typing, at, attribute_known, tag_known}
use Rattle.typecheck_rules.specs.Expected.{a_boolean}
use Rattle.typecheck_rules.specs.Walked.{Walked, Success, expect}
use Rattle.typecheck_rules.specs.Operators.{place, leaf_walked, unary_walked, like_walked, is_walked, has_walked, attr_walked, binary_walked, and_walked, or_walked, if_walked, set_walked, Fields, record_walked, call_walked}

module _ (schema : SchemaData) (env : EnvData) where
  -- with what is known before the expression
  abbrev mutual
    pub walked : List Capability → Plain → Walked
    walked cs (lit l m) = leaf_walked (lit l) m (type_of_literal schema l)
    walked cs (var v m) = leaf_walked (var v) m (type_of_variable schema env v)
    walked cs (slot i m) = Success (typing (type_of_slot env i) [] (slot i (at (type_of_slot env i) m)))
    walked cs (ite x y z m) = if_walked m (expect a_boolean (place x) (walked cs x))
        (λ ds. walked (cs ++ ds) y) (walked cs y) (walked cs z)
    walked cs (conj x y m) = and_walked m (place y)
        (expect a_boolean (place x) (walked cs x)) (λ ds. walked (cs ++ ds) y) (walked cs y)
    walked cs (disj x y m) = or_walked m (place y) (expect a_boolean (place x) (walked cs x)) (walked cs y)
    walked cs (unary o x m) = unary_walked o m (place x) (walked cs x)
    walked cs (binary o x y m) =
        binary_walked schema env o (has_cap cs (tag_known x y)) x y m (walked cs x) (walked cs y)
    walked cs (attr x n m) =
        attr_walked schema env (has_cap cs (attribute_known x n)) n m (place x) (walked cs x)
    walked cs (has x n m) = has_walked schema (has_cap cs (attribute_known x n)) x n m (walked cs x)
    walked cs (like x p m) = like_walked p m (place x) (walked cs x)
    walked cs (is_type x n m) = is_walked n m (place x) (walked cs x)
    walked cs (call f xs m) = call_walked f (function_of f) xs m (walked_all cs xs)
    walked cs (set xs m) = set_walked m (walked_all cs xs)
    walked cs (rec xs m) = record_walked m (walked_named cs xs)

    pub walked_all : List Capability → Trees (Mark (Unit {0})) → List Walked
    walked_all cs no_trees = []
    walked_all cs (tree x xs) = walked cs x ∷ walked_all cs xs

    pub walked_named : List Capability → Named (Mark (Unit {0})) → Fields
    walked_named cs no_named = []
    walked_named cs (named k x xs) = (k, walked cs x) ∷ walked_named cs xs
