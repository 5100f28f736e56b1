-- The parts of the scope: with an id in the place of a slot they are typed as with the slot, or False.
use Rattle.std.proofs.Common.{◌≡◌, inl, inr, ℕ, Bool, true, false, not, ◌&&◌, ◌||◌, List, [], ◌∷◌, Option, Some, None, is_some, refl, sym, subst, IfSome}
use Rattle.std.specs.Prelude.{option_map, if◌then◌else◌}
use Rattle.std.specs.Option.{option_and_then}
use Rattle.std.specs.Ordering.{is_eq}
use Rattle.std.proofs.lemmas.Map.Lookups.{exact_bytes}
use Rattle.policy_values.specs.declared.entity_uid.EntityUID.{EntityUID}
use Rattle.policy_values.specs.Uid.{text_cmp}
use Rattle.policy_expressions.specs.declared.kinds.BinaryOp.TheVariants.{Eq as IsEqual, In as IsIn}
use Rattle.policy_expressions.specs.declared.kinds.Literal.TheVariants as literal
use Rattle.policy_expressions.specs.declared.kinds.SlotId.{SlotId}
use Rattle.policy_expressions.specs.declared.kinds.SlotId.TheVariants.{Principal, Resource}
use Rattle.policy_expressions.specs.declared.kinds.Var.{Var}
use Rattle.policy_expressions.specs.declared.kinds.Var.TheVariants as variable
use Rattle.type_relations.specs.Join.{is_entity}
use Rattle.policy_expressions.specs.Slots.{has_slot, some_has_slot}
use Rattle.policy_expressions.specs.Tree.{lit, var, slot, conj, binary}
use Rattle.policy_values.specs.Ties.{equal_of}
use Rattle.schema_types.specs.Ty.{Ty, false_type, entity}
use Rattle.schema_core.specs.EnvData.{EnvData, unlinked, literal_type}
use Rattle.schema_core.specs.Environments.{Environment}
use Rattle.schema_core.specs.Schema.{ActionData, SchemaData}
use Rattle.policy_expressions.specs.Plain.{Plain, unmarked}
use Rattle.schema_core.specs.Within.{is_type_within}
use Rattle.typing_spec.specs.Rules.{bool_if, strict_join, is_entity_set, equal_type, possible, type_in}
use Rattle.typing_spec.specs.Signatures.{bool_type}
use Rattle.typing_spec.specs.Typing.{Typing, typing, at, types}
use Rattle.policy_set.specs.declared.constraint.EntityReference.TheVariants.{EUID, Slot}
use Rattle.policy_set.specs.declared.constraint.PrincipalOrResourceConstraint.{PrincipalOrResourceConstraint}
use Rattle.policy_set.specs.declared.constraint.PrincipalOrResourceConstraint.TheVariants.{Any, Eq, In, Is, IsIn as IsWithin}
use Rattle.policy_set.specs.declared.constraint.ActionConstraint.{ActionConstraint}
use Rattle.policy_set.specs.declared.constraint.ActionConstraint.TheVariants as action
use Rattle.policy_set.specs.Condition.{anything, compared, of_type, scope_part, literals, action_part, asks_slot}
use Rattle.policy_set.specs.Links.{linked}
use Rattle.link_spec.specs.Laws.{with_id as slot_filled, FollowsTyping, own_slot}
use Rattle.link_spec.specs.Linked.{linked_env}
use Rattle.link_spec.proofs.Follow.{equal_follows, FollowsType, type_follows, Follows, conj_follows}
use Rattle.link_spec.proofs.Slots.{same_types}

pub same_text : (m n : List ℕ) → is_eq (text_cmp m n) ≡ true → m ≡ n
same_text m n h = exact_bytes m n (equal_of (text_cmp m n) h)

literals_plain : (us : List EntityUID) → some_has_slot (literals us) ≡ false
literals_plain [] = refl
literals_plain (u ∷ us) = literals_plain us

pub action_plain : (c : ActionConstraint) → has_slot (action_part c) ≡ false
action_plain action.Any = refl
action_plain (action.Eq u) = refl
action_plain (action.In us) = literals_plain us

-- `==` with an id in place of a slot: the types are one, or have no id in common
equal_follows_slot : (n : List ℕ) (u : EntityUID) → FollowsType (equal_type None None (entity (n ∷ [])) (entity (n ∷ []))) (equal_type None (Some u) (entity (n ∷ [])) (entity (u.entity_type ∷ [])))
equal_follows_slot n u = by (is_eq (text_cmp n u.entity_type)) refl
  where
    itself : (t : Option Ty) → FollowsType t t
    itself None = tt
    itself (Some w) = inr refl

    any_false : (t : Option Ty) → FollowsType t (Some false_type)
    any_false None = tt
    any_false (Some w) = inl refl

    by : (b : Bool) → is_eq (text_cmp n u.entity_type) ≡ b → FollowsType (equal_type None None (entity (n ∷ [])) (entity (n ∷ []))) (equal_type None (Some u) (entity (n ∷ [])) (entity (u.entity_type ∷ [])))
    by true e =
        subst (λ k. FollowsType (equal_type None None (entity (n ∷ [])) (entity (n ∷ []))) (equal_type None (Some u) (entity (n ∷ [])) (entity (k ∷ [])))) (same_text n u.entity_type e)
        (itself (equal_type None None (entity (n ∷ [])) (entity (n ∷ []))))
    by false e =
        subst (λ b. FollowsType (equal_type None None (entity (n ∷ [])) (entity (n ∷ []))) (if not (b || false) && true then Some false_type else bool_if (is_some (strict_join (entity (n ∷ [])) (entity (u.entity_type ∷ [])))))) (sym e)
        (any_false (equal_type None None (entity (n ∷ [])) (entity (n ∷ []))))

-- `in` with an id in place of a slot
in_follows_slot : (b : Bool) → FollowsType (Some bool_type) (Some (possible b))
in_follows_slot true = inr refl
in_follows_slot false = inl refl

-- what a link gives for a slot is of a declared entity type
abbrev pub IsOfEntities : SchemaData → Option EntityUID → Type 0
IsOfEntities schema o = IfSome o (λ u. literal_type schema u ≡ Some (entity (u.entity_type ∷ [])))

module _ (schema : SchemaData) (a : ActionData) (e : Environment) (p r : Option (List ℕ)) where
  abbrev slots : EnvData
  slots = linked_env a e p r

  abbrev none : EnvData
  none = unlinked a e

  -- what has no slot is typed the same
  pub plain_follows : (x : Plain) → has_slot x ≡ false → Follows schema slots none x x
  plain_follows x h cs = equal_follows (types schema slots cs x) (types schema none cs x) (same_types schema a e p r None None cs x h)

-- an operator with an id on the right, by the type of the id, where there is one
abbrev equal_to : Var → List ℕ → EntityUID → Option Ty → Option Typing
equal_to v n u o =
    option_and_then (λ b. option_map (λ t. typing t [] (binary IsEqual (var v (at (entity (n ∷ [])) unmarked)) b.tree (at t unmarked))) (equal_type None (Some u) (entity (n ∷ [])) b.type))
    (option_map (λ t. typing t [] (lit (literal.EntityUID u) (at t unmarked))) o)

module _ (schema : SchemaData) where
  abbrev in_id : Var → List ℕ → EntityUID → Option Ty → Option Typing
  in_id v n u o =
      option_and_then (λ b. option_map (λ t. typing t [] (binary IsIn (var v (at (entity (n ∷ [])) unmarked)) b.tree (at t unmarked)))
      (if true && (is_entity b.type || is_entity_set b.type) then Some (type_in schema (Some n) (u ∷ [])) else None))
      (option_map (λ t. typing t [] (lit (literal.EntityUID u) (at t unmarked))) o)

  module _ (a : ActionData) (e : Environment) where
    abbrev name_of : SlotId → List ℕ
    name_of Principal = e.principal
    name_of Resource = e.resource

    -- the environment with the type of what stands for one slot, and of what stands for the other
    abbrev pub with_slots : SlotId → Option (List ℕ) → Option (List ℕ) → EnvData
    with_slots Principal s o = linked_env a e s o
    with_slots Resource s o = linked_env a e o s

    module _ (u : EntityUID) (h : literal_type schema u ≡ Some (entity (u.entity_type ∷ []))) where
      with_slot_equal : (i : SlotId) (n : List ℕ) (v : Var) (x : Option Typing) →
          x ≡ option_map (λ t. typing t [] (binary IsEqual (var v (at (entity (n ∷ [])) unmarked)) (slot i (at (entity (n ∷ [])) unmarked)) (at t unmarked))) (equal_type None None (entity (n ∷ [])) (entity (n ∷ []))) →
          FollowsTyping x (equal_to v n u (literal_type schema u))
      with_slot_equal i n v x q =
          subst (λ z. FollowsTyping z (equal_to v n u (literal_type schema u))) (sym q)
          (subst (λ o. FollowsTyping (option_map (λ t. typing t [] (binary IsEqual (var v (at (entity (n ∷ [])) unmarked)) (slot i (at (entity (n ∷ [])) unmarked)) (at t unmarked))) (equal_type None None (entity (n ∷ [])) (entity (n ∷ [])))) (equal_to v n u o)) (sym h)
          (type_follows (equal_type None None (entity (n ∷ [])) (entity (n ∷ []))) (equal_type None (Some u) (entity (n ∷ [])) (entity (u.entity_type ∷ [])))
          (λ t. binary IsEqual (var v (at (entity (n ∷ [])) unmarked)) (slot i (at (entity (n ∷ [])) unmarked)) (at t unmarked))
          (λ t. binary IsEqual (var v (at (entity (n ∷ [])) unmarked)) (lit (literal.EntityUID u) (at (entity (u.entity_type ∷ [])) unmarked)) (at t unmarked))
          (λ t u. slot_filled) (equal_follows_slot n u)))

      equal_part : (i : SlotId) (o : Option (List ℕ)) → Follows schema (with_slots i (Some (name_of i)) o) (unlinked a e) (compared IsEqual i Slot) (compared IsEqual i (EUID u))
      equal_part Principal o cs = with_slot_equal Principal e.principal variable.Principal (types schema (with_slots Principal (Some e.principal) o) cs (compared IsEqual Principal Slot)) refl
      equal_part Resource o cs = with_slot_equal Resource e.resource variable.Resource (types schema (with_slots Resource (Some e.resource) o) cs (compared IsEqual Resource Slot)) refl

      with_slot_in : (i : SlotId) (n : List ℕ) (v : Var) (x : Option Typing) →
          x ≡ Some (typing bool_type [] (binary IsIn (var v (at (entity (n ∷ [])) unmarked)) (slot i (at (entity (n ∷ [])) unmarked)) (at bool_type unmarked))) →
          FollowsTyping x (in_id v n u (literal_type schema u))
      with_slot_in i n v x q =
          subst (λ z. FollowsTyping z (in_id v n u (literal_type schema u))) (sym q)
          (subst (λ o. FollowsTyping (Some (typing bool_type [] (binary IsIn (var v (at (entity (n ∷ [])) unmarked)) (slot i (at (entity (n ∷ [])) unmarked)) (at bool_type unmarked)))) (in_id v n u o)) (sym h)
          (type_follows (Some bool_type) (Some (type_in schema (Some n) (u ∷ [])))
          (λ t. binary IsIn (var v (at (entity (n ∷ [])) unmarked)) (slot i (at (entity (n ∷ [])) unmarked)) (at t unmarked))
          (λ t. binary IsIn (var v (at (entity (n ∷ [])) unmarked)) (lit (literal.EntityUID u) (at (entity (u.entity_type ∷ [])) unmarked)) (at t unmarked))
          (λ t u. slot_filled) (in_follows_slot (is_type_within schema n u.entity_type || false))))

      in_part : (i : SlotId) (o : Option (List ℕ)) → Follows schema (with_slots i (Some (name_of i)) o) (unlinked a e) (compared IsIn i Slot) (compared IsIn i (EUID u))
      in_part Principal o cs = with_slot_in Principal e.principal variable.Principal (types schema (with_slots Principal (Some e.principal) o) cs (compared IsIn Principal Slot)) refl
      in_part Resource o cs = with_slot_in Resource e.resource variable.Resource (types schema (with_slots Resource (Some e.resource) o) cs (compared IsIn Resource Slot)) refl

    plain_at : (i : SlotId) (s o : Option (List ℕ)) (x : Plain) → has_slot x ≡ false → Follows schema (with_slots i s o) (unlinked a e) x x
    plain_at Principal s o x h = plain_follows schema a e s o x h
    plain_at Resource s o x h = plain_follows schema a e o s x h

    -- a part of the scope, where there is an id for its slot
    pub part_follows : (i : SlotId) (c : PrincipalOrResourceConstraint) (v : Option EntityUID) → is_some v ≡ asks_slot c → (asks_slot c ≡ true → IsOfEntities schema v) → (o : Option (List ℕ)) →
        Follows schema (with_slots i (own_slot c (name_of i)) o) (unlinked a e) (scope_part i c) (scope_part i (linked v c))
    part_follows i Any v s h o = plain_at i None o anything refl
    part_follows i (Is n) v s h o = plain_at i None o (of_type i n) refl
    part_follows i (Eq (EUID k)) v s h o = plain_at i None o (compared IsEqual i (EUID k)) refl
    part_follows i (In (EUID k)) v s h o = plain_at i None o (compared IsIn i (EUID k)) refl
    part_follows i (IsWithin n (EUID k)) v s h o = plain_at i None o (conj (of_type i n) (compared IsIn i (EUID k)) unmarked) refl
    part_follows i (Eq Slot) None s h o = absurd (cc)
    part_follows i (Eq Slot) (Some u) s h o = equal_part u (h refl) i o
    part_follows i (In Slot) None s h o = absurd (cc)
    part_follows i (In Slot) (Some u) s h o = in_part u (h refl) i o
    part_follows i (IsWithin n Slot) None s h o = absurd (cc)
    part_follows i (IsWithin n Slot) (Some u) s h o =
        conj_follows schema (with_slots i (Some (name_of i)) o) (unlinked a e) (of_type i n) (of_type i n) (compared IsIn i Slot) (compared IsIn i (EUID u)) unmarked
        (plain_at i (Some (name_of i)) o (of_type i n) refl) (in_part u (h refl) i o)
