-- A scope is five deep at most, so that the body alone decides whether a condition is too deep.
use Rattle.std.proofs.Common.{◌<◌, ◌≤◌, ◌↔◌, List, [], ◌∷◌, arith}
use Rattle.policy_values.specs.declared.entity_uid.EntityUID.{EntityUID}
use Rattle.policy_expressions.specs.Tree.{depth_of, deepest}
use Rattle.policy_expressions.specs.declared.kinds.BinaryOp.{BinaryOp}
use Rattle.policy_expressions.specs.declared.kinds.SlotId.{SlotId}
use Rattle.policy_expressions.specs.declared.kinds.SlotId.TheVariants.{Principal, Resource}
use Rattle.policy_set.specs.declared.constraint.EntityReference.{EntityReference}
use Rattle.policy_set.specs.declared.constraint.EntityReference.TheVariants.{EUID, Slot}
use Rattle.policy_set.specs.declared.constraint.PrincipalOrResourceConstraint.{PrincipalOrResourceConstraint}
use Rattle.policy_set.specs.declared.constraint.PrincipalOrResourceConstraint.TheVariants.{Any, Eq, In, Is, IsIn}
use Rattle.policy_set.specs.declared.constraint.ActionConstraint.{ActionConstraint}
use Rattle.policy_set.specs.declared.constraint.ActionConstraint.TheVariants as action
use Rattle.policy_set.specs.Data.{TemplateData}
use Rattle.policy_set.specs.Condition.{compared, literals, scope_part, action_part, condition_of}

compared_depth : (op : BinaryOp) (i : SlotId) (r : EntityReference) → depth_of (compared op i r) ≤ 2
compared_depth op i (EUID u) = omega arith
compared_depth op i Slot = omega arith

part_depth : (i : SlotId) (p : PrincipalOrResourceConstraint) → depth_of (scope_part i p) ≤ 3
part_depth i Any = omega arith
part_depth i (Eq (EUID u)) = omega arith
part_depth i (Eq Slot) = omega arith
part_depth i (In (EUID u)) = omega arith
part_depth i (In Slot) = omega arith
part_depth i (Is n) = omega arith
part_depth i (IsIn n (EUID u)) = omega arith
part_depth i (IsIn n Slot) = omega arith

pub literals_depth : (us : List EntityUID) → deepest (literals us) ≤ 1
literals_depth [] = omega arith
literals_depth (u ∷ us) = omega (arith, literals_depth us)

action_depth : (a : ActionConstraint) → depth_of (action_part a) ≤ 3
action_depth action.Any = omega arith
action_depth (action.Eq uid) = omega arith
action_depth (action.In us) = omega (arith, literals_depth us)

-- the condition is deeper than 400 exactly where the body is 400 deep at least
pub by_body : (t : TemplateData) → (400 ≤ depth_of t.body) ↔ (400 < depth_of (condition_of t))
by_body t =
    (λ h. omega arith, λ h. omega (arith, part_depth Principal t.principal, action_depth t.action, part_depth Resource t.resource))
