-- A scope without slots makes a condition without slots.
use Rattle.std.proofs.Common.{◌≡◌, Bool, true, false, ◌||◌, List, [], ◌∷◌, refl}
use Rattle.policy_values.specs.declared.entity_uid.EntityUID.{EntityUID}
use Rattle.policy_expressions.specs.Slots.{has_slot, some_has_slot}
use Rattle.policy_expressions.specs.declared.kinds.SlotId.{SlotId}
use Rattle.policy_expressions.specs.declared.kinds.SlotId.TheVariants.{Principal, Resource}
use Rattle.policy_set.specs.declared.constraint.EntityReference.TheVariants.{EUID, Slot}
use Rattle.policy_set.specs.declared.constraint.PrincipalOrResourceConstraint.{PrincipalOrResourceConstraint}
use Rattle.policy_set.specs.declared.constraint.PrincipalOrResourceConstraint.TheVariants.{Any, Eq, In, Is, IsIn}
use Rattle.policy_set.specs.declared.constraint.ActionConstraint.{ActionConstraint}
use Rattle.policy_set.specs.declared.constraint.ActionConstraint.TheVariants as action
use Rattle.policy_set.specs.Data.{TemplateData}
use Rattle.policy_set.specs.Condition.{asks_slot, has_scope_slot, literals, scope_part, action_part, condition_of}

part_slot : (i : SlotId) (p : PrincipalOrResourceConstraint) → has_slot (scope_part i p) ≡ asks_slot p
part_slot i Any = refl
part_slot i (Eq (EUID u)) = refl
part_slot i (Eq Slot) = refl
part_slot i (In (EUID u)) = refl
part_slot i (In Slot) = refl
part_slot i (Is n) = refl
part_slot i (IsIn n (EUID u)) = refl
part_slot i (IsIn n Slot) = refl

literals_slot : (us : List EntityUID) → some_has_slot (literals us) ≡ false
literals_slot [] = refl
literals_slot (u ∷ us) = literals_slot us

pub action_slot : (a : ActionConstraint) → has_slot (action_part a) ≡ false
action_slot action.Any = refl
action_slot (action.Eq uid) = refl
action_slot (action.In us) = literals_slot us

four : (p a r b : Bool) → p || r ≡ false → a ≡ false → b ≡ false → ((p || a) || r) || b ≡ false
four true a r b h i j = cc
four false true r b h i j = cc
four false false true b h i j = cc
four false false false b h i j = j

pub no_slot : (t : TemplateData) → has_scope_slot t ≡ false → has_slot t.body ≡ false → has_slot (condition_of t) ≡ false
no_slot t h b =
    rw (part_slot Principal t.principal, part_slot Resource t.resource) (four (asks_slot t.principal) (has_slot (action_part t.action)) (asks_slot t.resource) (has_slot t.body) h (action_slot t.action) b)
