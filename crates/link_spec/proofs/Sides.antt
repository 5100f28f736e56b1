-- What a scope asks of the principal and of the resource.
use Rattle.std.proofs.Common.{◌≡◌, ◌⊎◌, inl, inr, ℕ, Bool, true, false, not, ◌&&◌, ◌||◌, List, [], ◌∷◌, Option, Some, None, IsTrue, IsSome, is_some, refl, sym, ap, subst, ◌∙◌, true≢false}
use Rattle.std.specs.Prelude.{if◌then◌else◌, option_map, cond, Ok, Err}
use Rattle.std.specs.Result.{result_ok}
use Rattle.std.specs.declared.cmp.Ordering.{Ordering}
use Rattle.std.specs.declared.cmp.Ordering.TheVariants.{Less, Equal, Greater}
use Rattle.std.specs.Ordering.{is_eq, ordering_then, ordering_reverse}
use Rattle.schema_types.specs.declared.kinds.LubHelp.TheVariants.{EntityType}
use Rattle.std.specs.Cmp.{tied_itself}
use Rattle.std.proofs.lemmas.Cmp.{nat_list_cmp_total}
use Rattle.policy_values.specs.declared.entity_uid.EntityUID.{EntityUID}
use Rattle.policy_values.specs.Basename.{is_action_type}
use Rattle.policy_values.specs.Uid.{text_cmp}
use Rattle.policy_expressions.specs.declared.kinds.BinaryOp.{BinaryOp}
use Rattle.policy_expressions.specs.declared.kinds.BinaryOp.TheVariants.{Eq as IsEqual, In as IsIn}
use Rattle.policy_expressions.specs.declared.kinds.Literal.TheVariants as literal
use Rattle.policy_expressions.specs.declared.kinds.SlotId.{SlotId}
use Rattle.policy_expressions.specs.declared.kinds.SlotId.TheVariants.{Principal, Resource}
use Rattle.policy_expressions.specs.Tree.{lit, var, slot, binary, is_type}
use Rattle.policy_expressions.specs.Plain.{Plain, unmarked}
use Rattle.schema_types.specs.Ty.{Ty, true_type, false_type, entity, action, no_attrs}
use Rattle.schema_core.specs.EnvData.{EnvData, id_type, literal_type}
use Rattle.schema_core.specs.Environments.{Environment}
use Rattle.schema_core.specs.Schema.{TypeData, ActionData, SchemaData, type_at, action_at}
use Rattle.schema_core.specs.Within.{is_type_within}
use Rattle.typing_spec.specs.Capability.{Capability, has_cap}
use Rattle.typing_spec.specs.Environment.{slot_entity, known_id}
use Rattle.typing_spec.specs.Rules.{bool_if, equal_type, possible, type_in, in_listed, is_one_of, is_entity_set}
use Rattle.typing_spec.specs.Signatures.{bool_type}
use Rattle.typing_spec.specs.Typing.{Typing, typing, at, tag_known}
use Rattle.policy_set.specs.declared.constraint.EntityReference.TheVariants.{EUID, Slot}
use Rattle.policy_set.specs.declared.constraint.PrincipalOrResourceConstraint.{PrincipalOrResourceConstraint}
use Rattle.policy_set.specs.declared.constraint.PrincipalOrResourceConstraint.TheVariants.{Any, Eq, In, Is, IsIn as IsWithin}
use Rattle.policy_set.specs.Condition.{variable_of, id_literal, compared, of_type, scope_part}
use Rattle.link_spec.specs.Linked.{linked_env}
use Rattle.type_relations.specs.Join.{is_entity}
use Rattle.typecheck_rules.specs.Expected.{entities}
use Rattle.typecheck_rules.specs.Walked.{Walked, Success, Fail, tree_of, untyped, unexpected, lends, two_walked}
use Rattle.typecheck_rules.specs.Operators.{place, type_given, leaf_walked, binary_given, binary_own, binary_typing, binary_walked}
use Rattle.policy_scope.specs.PlainScope.{is_plain_side}
use Rattle.typecheck_rules.specs.Walk.{walked}
use Rattle.link_spec.specs.Parts.{part_typing, verdict, typed_variable, compared_part, type_part, side_part, Stands}
use Rattle.link_spec.proofs.Parts.{same_text}
use Rattle.plain_lemmas.proofs.Booleans.{or_false}
use Rattle.link_spec.proofs.Joins.{two_end, Comes, joins}

-- the type of an id that has one
abbrev pub IsTyped : SchemaData → EntityUID → Type 0
IsTyped schema u = (literal_type schema u ≡ Some (action u.entity_type no_attrs)) × IsSome (action_at schema u) ⊎ (literal_type schema u ≡ Some (entity (u.entity_type ∷ [])))

pub id_typed : (schema : SchemaData) (u : EntityUID) → IsTrue (is_some (literal_type schema u)) → IsTyped schema u
id_typed schema u h = by (action_at schema u) refl (type_at schema u.entity_type) refl
  where
    by : (a : Option ActionData) → action_at schema u ≡ a → (t : Option TypeData) → type_at schema u.entity_type ≡ t → IsTyped schema u
    by (Some a) e t f = inl ((λ j. id_type u (e j) (f j)), ap is_some e)
    by None e (Some t) f = inr (λ j. id_type u (e j) (f j))
    by None e None f = absurd (true≢false (sym h ∙ (λ j. is_some (id_type u (e j) (f j)))))

-- the verdict of a test
possible_verdict : (b : Bool) → possible b ≡ verdict b false
possible_verdict true = refl
possible_verdict false = refl

is_within_one : (schema : SchemaData) (n : List ℕ) (u : EntityUID) → type_in schema (Some n) (u ∷ []) ≡ verdict (is_type_within schema n u.entity_type) false
is_within_one schema n u = ap possible (or_false (is_type_within schema n u.entity_type)) ∙ possible_verdict (is_type_within schema n u.entity_type)

-- the type of a test for a type
one_of_verdict : (b : Bool) → (if not (b || false) then false_type else (if b && true then verdict true true else bool_type)) ≡ verdict b true
one_of_verdict true = refl
one_of_verdict false = refl

reversed_eq : (o : Ordering) → is_eq (ordering_reverse o) ≡ is_eq o
reversed_eq Equal = refl
reversed_eq Less = refl
reversed_eq Greater = refl

text_sym : (m n : List ℕ) → is_eq (text_cmp m n) ≡ is_eq (text_cmp n m)
text_sym m n = ap is_eq (nat_list_cmp_total.antisymm m n) ∙ reversed_eq (text_cmp n m)

-- `==` of entities of one type each: False of two, else Bool
entity_equal : (x : Option EntityUID) (n k : List ℕ) → equal_type None x (entity (n ∷ [])) (entity (k ∷ [])) ≡ Some (verdict (is_eq (text_cmp n k)) false)
entity_equal x n k = by (text_cmp n k)
  where
    by : (o : Ordering) → (if not (is_eq o || false) && true then Some false_type else bool_if (is_some (result_ok (cond (is_eq (ordering_then o Equal)) (Ok (entity (n ∷ []))) (Err EntityType))))) ≡ Some (verdict (is_eq o) false)
    by Equal = refl
    by Less = refl
    by Greater = refl

-- and of an entity and an action of another type
action_equal : (x : Option EntityUID) (n k : List ℕ) → is_eq (text_cmp n k) ≡ false → equal_type None x (entity (n ∷ [])) (action k no_attrs) ≡ Some (verdict (is_eq (text_cmp n k)) false)
action_equal x n k h =
    subst (λ b. (if not (b || false) && true then Some false_type else bool_if false) ≡ Some (verdict b false)) (sym h) refl

module _ (schema : SchemaData) (a : ActionData) (e : Environment) (s s' : Option (List ℕ)) where
  abbrev env : EnvData
  env = linked_env a e s s'

  abbrev pub name_of : SlotId → List ℕ
  name_of Principal = e.principal
  name_of Resource = e.resource

  abbrev pub slot_of : SlotId → Option (List ℕ)
  slot_of Principal = s
  slot_of Resource = s'

  -- the variable, of which nothing is known but its type, and the slot
  abbrev variable_typing : SlotId → Typing
  variable_typing i = typing (entity (name_of i ∷ [])) [] (typed_variable i (name_of i))

  variable_walked : (i : SlotId) (cs : List Capability) → walked schema env cs (var (variable_of i) unmarked) ≡ Success (variable_typing i)
  variable_walked Principal cs = refl
  variable_walked Resource cs = refl

  unknown : (i : SlotId) → known_id env (var (variable_of i) unmarked) ≡ None
  unknown Principal = refl
  unknown Resource = refl

  in_listed_by : (i : SlotId) (us : List EntityUID) → in_listed schema env (var (variable_of i) unmarked) us ≡ type_in schema (Some (name_of i)) us
  in_listed_by Principal us = refl
  in_listed_by Resource us = refl

  abbrev slot_typing : SlotId → Typing
  slot_typing i = typing (slot_entity (slot_of i)) [] (slot i (at (slot_entity (slot_of i)) unmarked))

  slot_walked : (i : SlotId) (cs : List Capability) → walked schema env cs (slot i unmarked) ≡ Success (slot_typing i)
  slot_walked Principal cs = refl
  slot_walked Resource cs = refl

  -- an operator whose right operand is an id
  module _ (u : EntityUID) (t : Ty) (typed : literal_type schema u ≡ Some t) (i : SlotId) where
    abbrev x : Plain
    x = var (variable_of i) unmarked

    abbrev v : Typing
    v = variable_typing i

    abbrev w : Typing
    w = typing t [] (lit (literal.EntityUID u) (at t unmarked))

    -- with the note that the id has
    noted_so : (op : BinaryOp) (b : Bool) → Success (typing (verdict b false) [] (binary op v.tree w.tree (at (verdict b false) unmarked))) ≡ Success (part_typing (compared_part schema op i (name_of i) (slot_of i) (EUID u) b))
    noted_so op b = λ j. Success (typing (verdict b false) [] (binary op v.tree (lit (literal.EntityUID u) (record { note = sym typed j; loc = None })) (at (verdict b false) unmarked)))

    equal_id : (b : Bool) → equal_type None (Some u) v.type t ≡ Some (verdict b false) → Comes schema env (compared IsEqual i (EUID u)) (compared_part schema IsEqual i (name_of i) (slot_of i) (EUID u) b)
    equal_id b h cs =
        (λ j. binary_walked schema env IsEqual (has_cap cs (tag_known x (id_literal u))) x (id_literal u) unmarked (variable_walked i cs j) (leaf_walked (lit (literal.EntityUID u)) unmarked (typed j))) ∙
        two_end (binary_typing schema env IsEqual (has_cap cs (tag_known x (id_literal u))) x (id_literal u) unmarked) _ _ v w
        (typing (verdict b false) [] (binary IsEqual v.tree w.tree (at (verdict b false) unmarked)))
        (ap (option_map (λ z. typing z [] (binary IsEqual v.tree w.tree (at z unmarked)))) ((λ j. equal_type (unknown i j) (Some u) v.type t) ∙ h)) ∙ noted_so IsEqual b

    abbrev within : Bool
    within = is_type_within schema (name_of i) u.entity_type

    -- the id where an entity is expected
    abbrev fitting : Bool → Walked
    fitting c = cond (c || is_entity_set t) (Success w) (Fail (untyped w.tree) (unexpected entities (place (id_literal u)) t))

    in_id : is_entity t ≡ true → Comes schema env (compared IsIn i (EUID u)) (compared_part schema IsIn i (name_of i) (slot_of i) (EUID u) within)
    in_id h cs =
        (λ j. binary_walked schema env IsIn (has_cap cs (tag_known x (id_literal u))) x (id_literal u) unmarked (variable_walked i cs j) (leaf_walked (lit (literal.EntityUID u)) unmarked (typed j))) ∙
        (λ j. two_walked (binary_typing schema env IsIn (has_cap cs (tag_known x (id_literal u))) x (id_literal u) unmarked)
        (binary IsIn v.tree (tree_of (fitting (h j))) (lends (binary_given schema env IsIn x (id_literal u) (Some v.type)) unmarked))
        (binary_own schema env IsIn (has_cap cs (tag_known x (id_literal u))) x (id_literal u) unmarked (Some v.type) (type_given (fitting (h j)))) (Success v) (fitting (h j))) ∙
        two_end (binary_typing schema env IsIn (has_cap cs (tag_known x (id_literal u))) x (id_literal u) unmarked) _ _ v w
        (typing (verdict within false) [] (binary IsIn v.tree w.tree (at (verdict within false) unmarked)))
        ((λ j. option_map (λ z. typing z [] (binary IsIn v.tree w.tree (at z unmarked))) (if true && (h j || is_entity_set t) then Some (in_listed_by i (u ∷ []) j) else None)) ∙
        ap (λ z. Some (typing z [] (binary IsIn v.tree w.tree (at z unmarked)))) (is_within_one schema (name_of i) u)) ∙ noted_so IsIn within

  -- with a slot nothing is known of the id
  equal_slot : (i : SlotId) → slot_of i ≡ Some (name_of i) → Comes schema env (compared IsEqual i Slot) (compared_part schema IsEqual i (name_of i) (slot_of i) Slot true)
  equal_slot i h cs =
      (λ j. binary_walked schema env IsEqual (has_cap cs (tag_known x y)) x y unmarked (variable_walked i cs j) (slot_walked i cs j)) ∙
      two_end (binary_typing schema env IsEqual (has_cap cs (tag_known x y)) x y unmarked) _ _ v w
      (typing bool_type [] (binary IsEqual v.tree w.tree (at bool_type unmarked)))
      (ap (option_map (λ z. typing z [] (binary IsEqual v.tree w.tree (at z unmarked))))
      ((λ j. equal_type (unknown i j) None v.type (slot_entity (h j))) ∙ entity_equal None (name_of i) (name_of i) ∙ ap (λ o. Some (verdict (is_eq o) false)) (tied_itself nat_list_cmp_total (name_of i))))
    where
      x : Plain
      x = var (variable_of i) unmarked

      y : Plain
      y = slot i unmarked

      v : Typing
      v = variable_typing i

      w : Typing
      w = slot_typing i

in_slot : (schema : SchemaData) (a : ActionData) (e : Environment) (s s' : Option (List ℕ)) (i : SlotId) →
    Comes schema (linked_env a e s s') (compared IsIn i Slot) (compared_part schema IsIn i (name_of schema a e s s' i) (slot_of schema a e s s' i) Slot true)
in_slot schema a e None s' Principal cs = refl
in_slot schema a e (Some n) s' Principal cs = refl
in_slot schema a e s None Resource cs = refl
in_slot schema a e s (Some n) Resource cs = refl

-- the test for a type
type_tested : (n m : List ℕ) → is_one_of (n ∷ []) m ≡ verdict (is_eq (text_cmp m n)) true
type_tested n m = by (text_cmp m n)
  where
    by : (o : Ordering) → (if not (is_eq o || false) then false_type else (if is_eq o && true then true_type else bool_type)) ≡ verdict (is_eq o) true
    by Equal = refl
    by Less = refl
    by Greater = refl

module _ (schema : SchemaData) (a : ActionData) (e : Environment) (s s' : Option (List ℕ)) where
  tests_type : (i : SlotId) (m : List ℕ) → Comes schema (linked_env a e s s') (of_type i m) (type_part i (name_of schema a e s s' i) m)
  tests_type Principal m cs = ap (λ t. Success (typing t [] (is_type (typed_variable Principal e.principal) m (at t unmarked)))) (type_tested e.principal m)
  tests_type Resource m cs = ap (λ t. Success (typing t [] (is_type (typed_variable Resource e.resource) m (at t unmarked)))) (type_tested e.resource m)

  -- an id on the right of `==` or `in`, where the variable's type is none of actions, and declared actions have a type of actions
  module _ (actions : (u : EntityUID) → IsSome (action_at schema u) → is_action_type u.entity_type ≡ true) where
    apart : (n : List ℕ) (u : EntityUID) → is_action_type n ≡ false → IsSome (action_at schema u) → is_eq (text_cmp n u.entity_type) ≡ false
    apart n u h k = by (is_eq (text_cmp n u.entity_type)) refl
      where
        by : (b : Bool) → is_eq (text_cmp n u.entity_type) ≡ b → b ≡ false
        by true q = absurd (true≢false (sym (actions u k) ∙ ap is_action_type (sym (same_text n u.entity_type q)) ∙ h))
        by false q = refl

    equal_known : (i : SlotId) (u : EntityUID) → is_action_type (name_of schema a e s s' i) ≡ false → IsTyped schema u →
        Comes schema (linked_env a e s s') (compared IsEqual i (EUID u)) (compared_part schema IsEqual i (name_of schema a e s s' i) (slot_of schema a e s s' i) (EUID u) (is_eq (text_cmp u.entity_type (name_of schema a e s s' i))))
    equal_known i u h (inl k) =
        equal_id schema a e s s' u (action u.entity_type no_attrs) k.0 i (is_eq (text_cmp u.entity_type (name_of schema a e s s' i)))
        (action_equal (Some u) (name_of schema a e s s' i) u.entity_type (apart (name_of schema a e s s' i) u h k.1) ∙ ap (λ b. Some (verdict b false)) (text_sym (name_of schema a e s s' i) u.entity_type))
    equal_known i u h (inr k) =
        equal_id schema a e s s' u (entity (u.entity_type ∷ [])) k i (is_eq (text_cmp u.entity_type (name_of schema a e s s' i)))
        (entity_equal (Some u) (name_of schema a e s s' i) u.entity_type ∙ ap (λ b. Some (verdict b false)) (text_sym (name_of schema a e s s' i) u.entity_type))

    in_known : (i : SlotId) (u : EntityUID) → IsTyped schema u →
        Comes schema (linked_env a e s s') (compared IsIn i (EUID u)) (compared_part schema IsIn i (name_of schema a e s s' i) (slot_of schema a e s s' i) (EUID u) (is_type_within schema (name_of schema a e s s' i) u.entity_type))
    in_known i u (inl k) = in_id schema a e s s' u (action u.entity_type no_attrs) k.0 i refl
    in_known i u (inr k) = in_id schema a e s s' u (entity (u.entity_type ∷ [])) k i refl

    pub side : (i : SlotId) (c : PrincipalOrResourceConstraint) → is_action_type (name_of schema a e s s' i) ≡ false → IsTrue (is_plain_side schema c) → Stands c (name_of schema a e s s' i) (slot_of schema a e s s' i) →
        Comes schema (linked_env a e s s') (scope_part i c) (side_part schema i (name_of schema a e s s' i) (slot_of schema a e s s' i) c)
    side i Any h k f = λ cs. refl
    side i (Eq (EUID u)) h k f = equal_known i u h (id_typed schema u k)
    side i (Eq Slot) h k f = equal_slot schema a e s s' i f
    side i (In (EUID u)) h k f = in_known i u (id_typed schema u k)
    side i (In Slot) h k f = in_slot schema a e s s' i
    side i (Is m) h k f = tests_type i m
    side i (IsWithin m (EUID u)) h k f =
        joins schema (linked_env a e s s') (of_type i m) (compared IsIn i (EUID u)) (type_part i (name_of schema a e s s' i) m)
        (compared_part schema IsIn i (name_of schema a e s s' i) (slot_of schema a e s s' i) (EUID u) (is_type_within schema (name_of schema a e s s' i) u.entity_type)) (tests_type i m) (in_known i u (id_typed schema u k))
    side i (IsWithin m Slot) h k f =
        joins schema (linked_env a e s s') (of_type i m) (compared IsIn i Slot) (type_part i (name_of schema a e s s' i) m)
        (compared_part schema IsIn i (name_of schema a e s s' i) (slot_of schema a e s s' i) Slot true) (tests_type i m) (in_slot schema a e s s' i)
