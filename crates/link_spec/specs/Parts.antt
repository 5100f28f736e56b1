-- What the scope of a policy comes to in an environment, by its names alone.
use Rattle.std.specs.Prelude.{◌≡◌, ⊤, ℕ, Bool, true, false, ◌&&◌, List, [], ◌∷◌, Option, Some, None, map}
use Rattle.std.specs.Ordering.{is_eq}
use Rattle.policy_values.specs.declared.entity_uid.EntityUID.{EntityUID}
use Rattle.policy_values.specs.Uid.{text_cmp, uid_eq}
use Rattle.policy_expressions.specs.declared.kinds.Literal.TheVariants as literal
use Rattle.policy_expressions.specs.declared.kinds.Var.TheVariants as variable
use Rattle.policy_expressions.specs.declared.kinds.SlotId.{SlotId}
use Rattle.policy_expressions.specs.declared.kinds.SlotId.TheVariants.{Principal, Resource}
use Rattle.policy_expressions.specs.declared.kinds.BinaryOp.{BinaryOp}
use Rattle.policy_expressions.specs.declared.kinds.BinaryOp.TheVariants.{Eq as IsEqual, In as IsIn}
use Rattle.policy_expressions.specs.Tree.{lit, var, slot, conj, binary, set, is_type, Trees, trees_of, Mark}
use Rattle.policy_expressions.specs.Plain.{unmarked}
use Rattle.schema_types.specs.Ty.{Ty, true_type, false_type, any_set, set_of, entity, action, no_attrs}
use Rattle.schema_core.specs.EnvData.{literal_type}
use Rattle.schema_core.specs.Environments.{Environment}
use Rattle.schema_core.specs.Schema.{ActionData, SchemaData}
use Rattle.typing_spec.specs.Environment.{slot_entity}
use Rattle.typing_spec.specs.Signatures.{bool_type}
use Rattle.typing_spec.specs.Typing.{Typed, Typing, typing, at, unreached}
use Rattle.policy_set.specs.declared.constraint.EntityReference.{EntityReference}
use Rattle.policy_set.specs.declared.constraint.EntityReference.TheVariants.{EUID, Slot}
use Rattle.policy_set.specs.declared.constraint.PrincipalOrResourceConstraint.{PrincipalOrResourceConstraint}
use Rattle.policy_set.specs.declared.constraint.PrincipalOrResourceConstraint.TheVariants.{Any, Eq, In, Is, IsIn as IsWithin}
use Rattle.policy_set.specs.declared.constraint.ActionConstraint.{ActionConstraint}
use Rattle.policy_set.specs.declared.constraint.ActionConstraint.TheVariants as asked
use Rattle.policy_set.specs.Condition.{variable_of}
use Rattle.policy_scope.specs.Scope.{equal_meets, in_meets, type_meets, action_meets}

-- False where it is not met; True where it is met and that is certain; else Bool
abbrev pub verdict : Bool → Bool → Ty
verdict false sure = false_type
verdict true true = true_type
verdict true false = bool_type

-- a part of a scope in an environment: whether it is met, whether that makes it true, and its typed
-- expression
pub record Part : Type 0 where
  pub meets : Bool
  pub sure : Bool
  pub tree : Typed

abbrev pub part : Bool → Bool → Typed → Part
part m s x = record { meets = m; sure = s; tree = x }

-- its typing: it makes nothing known
abbrev pub part_typing : Part → Typing
part_typing p = typing (verdict p.meets p.sure) [] p.tree

-- what stands on the right of `&&`: behind what is not met nothing is reached
abbrev pub if_met : Bool → Typed → Typed
if_met true x = x
if_met false x = unreached

abbrev pub joined : Part → Part → Part
joined p q =
    part (p.meets && q.meets) (p.sure && q.sure)
    (conj p.tree (if_met p.meets q.tree) (at (verdict (p.meets && q.meets) (p.sure && q.sure)) unmarked))

-- a part that asks for nothing
abbrev pub any_part : Part
any_part = part true true (lit (literal.Bool true) (at true_type unmarked))

abbrev pub typed_variable : SlotId → List ℕ → Typed
typed_variable i n = var (variable_of i) (at (entity (n ∷ [])) unmarked)

-- the test for a type
abbrev pub type_part : SlotId → List ℕ → List ℕ → Part
type_part i n m =
    part (is_eq (text_cmp m n)) true
    (is_type (typed_variable i n) m (at (verdict (is_eq (text_cmp m n)) true) unmarked))

module _ (schema : SchemaData) where
  abbrev pub noted : EntityUID → Mark (Option Ty)
  noted u = record { note = literal_type schema u; loc = None }

  abbrev pub typed_id : EntityUID → Typed
  typed_id u = lit (literal.EntityUID u) (noted u)

  -- the entity that is named, or the slot with the type of what stands for it
  abbrev pub typed_reference : SlotId → Option (List ℕ) → EntityReference → Typed
  typed_reference i o (EUID u) = typed_id u
  typed_reference i o Slot = slot i (at (slot_entity o) unmarked)

  abbrev pub compared_part : BinaryOp → SlotId → List ℕ → Option (List ℕ) → EntityReference → Bool → Part
  compared_part op i n o r b =
      part b false
      (binary op (typed_variable i n) (typed_reference i o r) (at (verdict b false) unmarked))

  -- what the scope asks of the principal or the resource, of a variable of the type
  abbrev pub side_part : SlotId → List ℕ → Option (List ℕ) → PrincipalOrResourceConstraint → Part
  side_part i n o Any = any_part
  side_part i n o (Eq r) = compared_part IsEqual i n o r (equal_meets r n)
  side_part i n o (In r) = compared_part IsIn i n o r (in_meets schema r n)
  side_part i n o (Is m) = type_part i n m
  side_part i n o (IsWithin m r) = joined (type_part i n m) (compared_part IsIn i n o r (in_meets schema r n))

  abbrev pub action_type : EntityUID → Ty
  action_type u = action u.entity_type no_attrs

  -- a list of actions is of the type of its first
  abbrev pub listed_type : List EntityUID → Ty
  listed_type [] = any_set
  listed_type (u ∷ us) = set_of (action_type u)

  abbrev pub typed_ids : List EntityUID → Trees (Mark (Option Ty))
  typed_ids us = trees_of (map typed_id us)

  abbrev pub typed_action : ActionData → Typed
  typed_action a = var variable.Action (at (action_type a.name) unmarked)

  -- what the scope asks of the action
  abbrev pub action_part_of : ActionData → ActionConstraint → Part
  action_part_of a asked.Any = any_part
  action_part_of a (asked.Eq u) =
      part (uid_eq u a.name) true
      (binary IsEqual (typed_action a) (typed_id u) (at (verdict (uid_eq u a.name) true) unmarked))
  action_part_of a (asked.In us) =
      part (action_meets schema (asked.In us) a) false
      (binary IsIn (typed_action a) (set (typed_ids us) (at (listed_type us) unmarked))
      (at (verdict (action_meets schema (asked.In us) a) false) unmarked))

  -- the whole scope, in an environment of the action with these types of what stands for slots
  abbrev pub whole_part : ActionData → Environment → Option (List ℕ) → Option (List ℕ) →
      PrincipalOrResourceConstraint → ActionConstraint → PrincipalOrResourceConstraint → Part
  whole_part a e s s' p c r =
      joined (joined (side_part Principal e.principal s p) (action_part_of a c))
      (side_part Resource e.resource s' r)

  -- the environment meets the scope
  abbrev pub is_met_in : ActionData → Environment →
      PrincipalOrResourceConstraint → ActionConstraint → PrincipalOrResourceConstraint → Bool
  is_met_in a e p c r =
      (type_meets schema p e.principal && action_meets schema c a) && type_meets schema r e.resource

-- where a slot is compared with `==`, an entity of the variable's type stands for it
abbrev pub Stands : PrincipalOrResourceConstraint → List ℕ → Option (List ℕ) → Type 0
Stands (Eq Slot) n o = o ≡ Some n
Stands c n o = ⊤
