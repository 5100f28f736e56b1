-- What stands for slots does not matter to the walk of an expression without slots.
use Rattle.std.proofs.Common.{◌≡◌, ℕ, Bool, false, ◌||◌, List, [], ◌∷◌, ◌++◌, Option, Some, refl, ap, ◌∙◌}
use Rattle.std.specs.Prelude.{option_map}
use Rattle.std.specs.Option.{option_and_then, option_map_or}
use Rattle.policy_expressions.specs.declared.kinds.Loc.{Loc}
use Rattle.policy_expressions.specs.declared.kinds.BinaryOp.{BinaryOp}
use Rattle.policy_expressions.specs.declared.kinds.BinaryOp.TheVariants.{Eq}
use Rattle.policy_expressions.specs.declared.kinds.Var.TheVariants.{Context}
use Rattle.policy_expressions.specs.Functions.{function_of}
use Rattle.policy_expressions.specs.Slots.{has_slot, some_has_slot, some_named_has_slot}
use Rattle.policy_expressions.specs.Tree.{lit, var, slot, ite, conj, disj, unary, binary, attr, has, like, is_type, call, set, rec, Trees, no_trees, tree, Named, no_named, named, Mark}
use Rattle.policy_expressions.specs.Plain.{Plain}
use Rattle.schema_types.specs.Ty.{Ty}
use Rattle.schema_core.specs.EnvData.{EnvData}
use Rattle.schema_core.specs.Environments.{Environment}
use Rattle.schema_core.specs.Schema.{ActionData, SchemaData}
use Rattle.typing_spec.specs.Capability.{Capability, has_cap}
use Rattle.findings.specs.Access.{entity_or, access_of}
use Rattle.typing_spec.specs.Environment.{truth_type}
use Rattle.typing_spec.specs.Rules.{are_one, attribute_of, binary_type}
use Rattle.typing_spec.specs.Signatures.{bool_type}
use Rattle.typing_spec.specs.Typing.{Typed, typing, at, attribute_known, tag_known, binary_caps}
use Rattle.link_spec.specs.Linked.{linked_env}
use Rattle.link_spec.proofs.Slots.{same_variable, same_known, same_binary}
use Rattle.plain_lemmas.proofs.Booleans.{or_false_left, or_false_right}
use Rattle.typecheck_rules.specs.Expected.{a_boolean, an_owner, no_help, left_of, right_of}
use Rattle.typecheck_rules.specs.Own.{attribute_found, binary_found}
use Rattle.typecheck_rules.specs.Walked.{Walked, tree_of, given_by, lends, expect, expect_if, one_walked, two_walked}
use Rattle.typecheck_rules.specs.Operators.{place, type_given, leaf_walked, unary_walked, like_walked, is_walked, has_walked, attr_typing, attr_given, attr_walked, binary_given, binary_walked, and_walked, or_walked, if_walked, set_walked, record_walked, call_walked}
use Rattle.typecheck_rules.specs.Walk.{walked, walked_all, walked_named}
use Rattle.link_spec.specs.ScopeLaws.{BodiesReadNoSlots}

-- with one and with another type of what stands for them
module _ (schema : SchemaData) (a : ActionData) (e : Environment) (p r p' r' : Option (List ℕ)) where
  abbrev this : EnvData
  this = linked_env a e p r

  abbrev other : EnvData
  other = linked_env a e p' r'

  same_access : (t : Typed) (names : List (List ℕ)) → access_of this t names ≡ access_of other t names
  same_access (attr x n m) names = ap (entity_or m.note names) (same_access x (n ∷ names))
  same_access (var Context m) names = refl
  same_access x names = refl

  same_attr : (known : Bool) (n : List ℕ) (m : Mark (Unit {0})) (l : Option Loc) (w : Walked) → attr_walked schema this known n m l w ≡ attr_walked schema other known n m l w
  same_attr known n m l w =
      λ i. one_walked (attr_typing schema this known n m) (attr (tree_of v) n (lends (option_and_then (attr_given schema this n) (type_given v)) m))
      (option_map_or (λ b. attribute_found schema (same_access b.tree (n ∷ []) i) known n m.loc b.type (attribute_of schema b.type n)) (given_by v) []) v
    where
      v : Walked
      v = expect (an_owner no_help) l w

  same_given : (o : BinaryOp) (x y : Plain) (t : Option Ty) → binary_given schema this o x y t ≡ binary_given schema other o x y t
  same_given Eq x y t = λ i. Some (option_map_or truth_type (are_one (same_known schema a e p r p' r' x i) (same_known schema a e p r p' r' y i)) bool_type)
  same_given o x y t = refl

  -- an operator of two operands, by its rule and by what it gives
  same_two : (o : BinaryOp) (known : Bool) (x y : Plain) (m : Mark (Unit {0})) (w z : Walked) → binary_walked schema this o known x y m w z ≡ binary_walked schema other o known x y m w z
  same_two o known x y m w z =
      λ i. two_walked (λ b c. option_map (λ t. typing t (binary_caps o x y) (binary o b.tree c.tree (at t m))) (rules i b.type c.type))
      (binary o (tree_of v) (tree_of u) (lends (same_given o x y (type_given v) i) m))
      (binary_found schema o known y (option_and_then (λ s. option_and_then (rules i s) (type_given u)) (type_given v)) (place x) (place y) m.loc (type_given v) (type_given u)) v u
    where
      v : Walked
      v = expect_if (left_of o) (place x) w

      u : Walked
      u = expect_if (right_of o) (place y) z

      rules : binary_type schema this o known x y ≡ binary_type schema other o known x y
      rules = λ i s t. same_binary schema a e p r p' r' o known x y s t i

  mutual
    pub same_walk : (cs : List Capability) (x : Plain) → has_slot x ≡ false → walked schema this cs x ≡ walked schema other cs x
    same_walk cs (lit l m) h = refl
    same_walk cs (var v m) h = ap (leaf_walked (var v) m) (same_variable schema a e p r p' r' v)
    same_walk cs (slot j m) h = absurd (cc)
    same_walk cs (ite x y z m) h =
        let k = or_false_right (has_slot x) (has_slot y || has_slot z) h in
        let l = or_false_left (has_slot y) (has_slot z) k in
        λ i. if_walked m (expect a_boolean (place x) (same_walk cs x (or_false_left (has_slot x) (has_slot y || has_slot z) h) i)) (λ ds. same_walk (cs ++ ds) y l i) (same_walk cs y l i)
        (same_walk cs z (or_false_right (has_slot y) (has_slot z) k) i)
    same_walk cs (conj x y m) h =
        let k = or_false_right (has_slot x) (has_slot y) h in
        λ i. and_walked m (place y) (expect a_boolean (place x) (same_walk cs x (or_false_left (has_slot x) (has_slot y) h) i)) (λ ds. same_walk (cs ++ ds) y k i) (same_walk cs y k i)
    same_walk cs (disj x y m) h =
        λ i. or_walked m (place y) (expect a_boolean (place x) (same_walk cs x (or_false_left (has_slot x) (has_slot y) h) i)) (same_walk cs y (or_false_right (has_slot x) (has_slot y) h) i)
    same_walk cs (unary o x m) h = ap (unary_walked o m (place x)) (same_walk cs x h)
    same_walk cs (binary o x y m) h =
        (λ i. binary_walked schema this o (has_cap cs (tag_known x y)) x y m (same_walk cs x (or_false_left (has_slot x) (has_slot y) h) i) (same_walk cs y (or_false_right (has_slot x) (has_slot y) h) i)) ∙
        same_two o (has_cap cs (tag_known x y)) x y m (walked schema other cs x) (walked schema other cs y)
    same_walk cs (attr x n m) h =
        ap (attr_walked schema this (has_cap cs (attribute_known x n)) n m (place x)) (same_walk cs x h) ∙ same_attr (has_cap cs (attribute_known x n)) n m (place x) (walked schema other cs x)
    same_walk cs (has x n m) h = ap (has_walked schema (has_cap cs (attribute_known x n)) x n m) (same_walk cs x h)
    same_walk cs (like x q m) h = ap (like_walked q m (place x)) (same_walk cs x h)
    same_walk cs (is_type x n m) h = ap (is_walked n m (place x)) (same_walk cs x h)
    same_walk cs (call f xs m) h = ap (call_walked f (function_of f) xs m) (same_walks cs xs h)
    same_walk cs (set xs m) h = ap (set_walked m) (same_walks cs xs h)
    same_walk cs (rec xs m) h = ap (record_walked m) (same_fields cs xs h)

    same_walks : (cs : List Capability) (xs : Trees (Mark (Unit {0}))) → some_has_slot xs ≡ false → walked_all schema this cs xs ≡ walked_all schema other cs xs
    same_walks cs no_trees h = refl
    same_walks cs (tree x xs) h = λ i. same_walk cs x (or_false_left (has_slot x) (some_has_slot xs) h) i ∷ same_walks cs xs (or_false_right (has_slot x) (some_has_slot xs) h) i

    same_fields : (cs : List Capability) (xs : Named (Mark (Unit {0}))) → some_named_has_slot xs ≡ false → walked_named schema this cs xs ≡ walked_named schema other cs xs
    same_fields cs no_named h = refl
    same_fields cs (named n x xs) h = λ i. (n, same_walk cs x (or_false_left (has_slot x) (some_named_has_slot xs) h) i) ∷ same_fields cs xs (or_false_right (has_slot x) (some_named_has_slot xs) h) i

pub bodies_read_no_slots : BodiesReadNoSlots
bodies_read_no_slots schema a e p r p' r' x h = ap (expect a_boolean (place x)) (same_walk schema a e p r p' r' [] x h)
