-- Expressions without slots.
use Rattle.std.proofs.Common.{◌≡◌, ℕ, Bool, false, ◌&&◌, ◌||◌, List, [], ◌∷◌, ◌++◌, Option, Some, None, is_some, refl, ap}
use Rattle.std.specs.Prelude.{option_map, if◌then◌else◌}
use Rattle.std.specs.Option.{option_and_then, option_map_or}
use Rattle.policy_values.specs.declared.entity_uid.EntityUID.{EntityUID}
use Rattle.policy_expressions.specs.declared.kinds.BinaryOp.{BinaryOp}
use Rattle.policy_expressions.specs.declared.kinds.BinaryOp.TheVariants.{Eq, In}
use Rattle.policy_expressions.specs.declared.kinds.Literal.TheVariants as literal
use Rattle.policy_expressions.specs.declared.kinds.Var.{Var}
use Rattle.policy_expressions.specs.declared.kinds.Var.TheVariants.{Principal, Action, Resource, Context}
use Rattle.policy_expressions.specs.Functions.{function_of}
use Rattle.policy_expressions.specs.Slots.{has_slot, some_has_slot, some_named_has_slot}
use Rattle.policy_expressions.specs.Tree.{Tree, lit, var, slot, ite, conj, disj, unary, binary, attr, has, like, is_type, call, set, rec, Trees, no_trees, tree, Named, no_named, named, Mark}
use Rattle.schema_types.specs.Ty.{Ty}
use Rattle.schema_core.specs.EnvData.{EnvData}
use Rattle.schema_core.specs.Environments.{Environment}
use Rattle.schema_core.specs.Schema.{ActionData, SchemaData}
use Rattle.type_relations.specs.Join.{is_entity}
use Rattle.policy_expressions.specs.Plain.{Plain}
use Rattle.typing_spec.specs.Capability.{Capability, has_cap}
use Rattle.typing_spec.specs.Environment.{type_of_variable, known_id, known_ids, listed_ids}
use Rattle.typing_spec.specs.Rules as rule
use Rattle.typing_spec.specs.Rules.{is_entity_set, id_in, in_listed, in_type, equal_type, binary_type}
use Rattle.typing_spec.specs.Signatures.{bool_type, call_type}
use Rattle.typing_spec.specs.Typing.{typing, at, attribute_known, tag_known, if_typing, and_typing, or_typing, binary_caps, has_caps, types_in, trees_in, record_type, named_in, types, types_all, types_named}
use Rattle.link_spec.specs.Linked.{linked_env}
use Rattle.plain_lemmas.proofs.Booleans.{or_false_left, or_false_right}

-- typing an expression without slots, with one and with another type of what stands for them
module _ (schema : SchemaData) (a : ActionData) (e : Environment) (p r p' r' : Option (List ℕ)) where
  abbrev this : EnvData
  this = linked_env a e p r

  abbrev other : EnvData
  other = linked_env a e p' r'

  pub same_variable : (v : Var) → type_of_variable schema this v ≡ type_of_variable schema other v
  same_variable Principal = refl
  same_variable Action = refl
  same_variable Resource = refl
  same_variable Context = refl

  module _ {A : Type 0} where
    pub same_known : (x : Tree A) → known_id this x ≡ known_id other x
    same_known (lit (literal.EntityUID u) m) = refl
    same_known (var Action m) = refl
    same_known x = refl

    same_knowns : (xs : Trees A) → known_ids this xs ≡ known_ids other xs
    same_knowns no_trees = refl
    same_knowns (tree x xs) = λ i. option_and_then (λ u. option_map (λ us. u ∷ us) (same_knowns xs i)) (same_known x i)

    same_listed : (x : Tree A) → listed_ids this x ≡ listed_ids other x
    same_listed (set xs m) = same_knowns xs
    same_listed x = ap (option_map (λ u. u ∷ [])) (same_known x)

    same_in_listed : (x : Tree A) (us : List EntityUID) → in_listed schema this x us ≡ in_listed schema other x us
    same_in_listed (var Principal m) us = refl
    same_in_listed (var Resource m) us = refl
    same_in_listed x us = ap (λ o. option_map_or (λ u. id_in schema u us) o bool_type) (same_known x)

    same_in : (x y : Tree A) (t u : Ty) → in_type schema this x y t u ≡ in_type schema other x y t u
    same_in x y t u = λ i. if is_entity t && (is_entity u || is_entity_set u) then Some (option_map_or (λ us. same_in_listed x us i) (same_listed y i) bool_type) else None

    pub same_binary : (o : BinaryOp) (known : Bool) (x y : Tree A) (t u : Ty) → binary_type schema this o known x y t u ≡ binary_type schema other o known x y t u
    same_binary Eq known x y t u = λ i. equal_type (same_known x i) (same_known y i) t u
    same_binary In known x y t u = same_in x y t u
    same_binary o known x y t u = refl

  mutual
    pub same_types : (cs : List Capability) (x : Plain) → has_slot x ≡ false → types schema this cs x ≡ types schema other cs x
    same_types cs (lit l m) h = refl
    same_types cs (var v m) h = ap (option_map (λ t. typing t [] (var v (at t m)))) (same_variable v)
    same_types cs (slot j m) h = absurd (cc)
    same_types cs (ite x y z m) h =
        let k = or_false_right (has_slot x) (has_slot y || has_slot z) h in
        λ i. option_and_then (λ b. if_typing b.type b.caps b.tree m (same_types (cs ++ b.caps) y (or_false_left (has_slot y) (has_slot z) k) i) (same_types cs z (or_false_right (has_slot y) (has_slot z) k) i)) (same_types cs x (or_false_left (has_slot x) (has_slot y || has_slot z) h) i)
    same_types cs (conj x y m) h = λ i. option_and_then (λ b. and_typing b.type b.caps b.tree m (same_types (cs ++ b.caps) y (or_false_right (has_slot x) (has_slot y) h) i)) (same_types cs x (or_false_left (has_slot x) (has_slot y) h) i)
    same_types cs (disj x y m) h = λ i. option_and_then (λ b. or_typing b.type b.caps b.tree m (same_types cs y (or_false_right (has_slot x) (has_slot y) h) i)) (same_types cs x (or_false_left (has_slot x) (has_slot y) h) i)
    same_types cs (unary o x m) h = ap (option_and_then (λ b. option_map (λ t. typing t [] (unary o b.tree (at t m))) (rule.unary_type o b.type))) (same_types cs x h)
    same_types cs (binary o x y m) h =
        λ i. option_and_then (λ b. option_and_then (λ c. option_map (λ t. typing t (binary_caps o x y) (binary o b.tree c.tree (at t m)))
        (same_binary o (has_cap cs (tag_known x y)) x y b.type c.type i)) (same_types cs y (or_false_right (has_slot x) (has_slot y) h) i)) (same_types cs x (or_false_left (has_slot x) (has_slot y) h) i)
    same_types cs (attr x n m) h = ap (option_and_then (λ b. option_map (λ t. typing t [] (attr b.tree n (at t m))) (rule.attr_type schema (has_cap cs (attribute_known x n)) b.type n))) (same_types cs x h)
    same_types cs (has x n m) h =
        ap (option_and_then (λ b. option_map (λ t. typing t (has_caps (is_some (rule.attribute_of schema b.type n)) x n) (has b.tree n (at t m)))
        (rule.has_type schema (has_cap cs (attribute_known x n)) b.type n))) (same_types cs x h)
    same_types cs (like x q m) h = ap (option_and_then (λ b. option_map (λ t. typing t [] (like b.tree q (at t m))) (rule.like_type b.type))) (same_types cs x h)
    same_types cs (is_type x n m) h = ap (option_and_then (λ b. option_map (λ t. typing t [] (is_type b.tree n (at t m))) (rule.is_type b.type n))) (same_types cs x h)
    same_types cs (call f xs m) h = ap (option_and_then (λ ys. option_map (λ t. typing t [] (call f (trees_in ys) (at t m))) (call_type (function_of f) xs (types_in ys)))) (same_types_all cs xs h)
    same_types cs (set xs m) h = ap (option_and_then (λ ys. option_map (λ t. typing t [] (set (trees_in ys) (at t m))) (rule.set_type (types_in ys)))) (same_types_all cs xs h)
    same_types cs (rec xs m) h = ap (option_map (λ ys. typing (record_type ys) [] (rec (named_in ys) (at (record_type ys) m)))) (same_types_named cs xs h)

    same_types_all : (cs : List Capability) (xs : Trees (Mark (Unit {0}))) → some_has_slot xs ≡ false → types_all schema this cs xs ≡ types_all schema other cs xs
    same_types_all cs no_trees h = refl
    same_types_all cs (tree x xs) h = λ i. option_and_then (λ b. option_map (λ ys. b ∷ ys) (same_types_all cs xs (or_false_right (has_slot x) (some_has_slot xs) h) i)) (same_types cs x (or_false_left (has_slot x) (some_has_slot xs) h) i)

    same_types_named : (cs : List Capability) (xs : Named (Mark (Unit {0}))) → some_named_has_slot xs ≡ false → types_named schema this cs xs ≡ types_named schema other cs xs
    same_types_named cs no_named h = refl
    same_types_named cs (named k x xs) h = λ i. option_and_then (λ b. option_map (λ ys. (k, b) ∷ ys) (same_types_named cs xs (or_false_right (has_slot x) (some_named_has_slot xs) h) i)) (same_types cs x (or_false_left (has_slot x) (some_named_has_slot xs) h) i)
