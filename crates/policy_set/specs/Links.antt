-- Links of templates: the template with the link's ids in the places of its slots.
use Rattle.std.specs.Prelude.{◌≡◌, ℕ, false, List, Option, Some, None, is_some}
use Rattle.policy_values.specs.declared.entity_uid.EntityUID.{EntityUID}
use Rattle.policy_expressions.specs.declared.kinds.SlotValues.{SlotValues}
use Rattle.policy_expressions.specs.Slots.{has_slot, filled}
use Rattle.policy_set.specs.Data.{TemplateData, PolicyData}
use Rattle.policy_expressions.specs.Plain.{Plain}
use Rattle.policy_set.specs.Condition.{condition_of, asks_slot}
use Rattle.policy_set.specs.declared.constraint.EntityReference.{EntityReference}
use Rattle.policy_set.specs.declared.constraint.EntityReference.TheVariants.{EUID, Slot}
use Rattle.policy_set.specs.declared.constraint.PrincipalOrResourceConstraint.{PrincipalOrResourceConstraint}
use Rattle.policy_set.specs.declared.constraint.PrincipalOrResourceConstraint.TheVariants.{Any, Eq, In, Is}
use Rattle.policy_set.specs.declared.constraint.PrincipalOrResourceConstraint.TheVariants as scope

-- a link's own condition: the template's, with the link's ids in the places of slots
abbrev pub own_condition : SlotValues → TemplateData → Plain
own_condition w t = filled w (condition_of t)

-- a constraint with an id in the place of its slot
abbrev pub with_id : Option EntityUID → EntityReference → EntityReference
with_id o (EUID u) = EUID u
with_id (Some u) Slot = EUID u
with_id None Slot = Slot

abbrev pub linked : Option EntityUID → PrincipalOrResourceConstraint → PrincipalOrResourceConstraint
linked o Any = Any
linked o (Eq r) = Eq (with_id o r)
linked o (In r) = In (with_id o r)
linked o (Is n) = Is n
linked o (scope.IsIn n r) = scope.IsIn n (with_id o r)

-- the link as a template of its own
abbrev pub linked_of : SlotValues → TemplateData → TemplateData
linked_of w t =
    record t { principal = linked w.principal t.principal; resource = linked w.resource t.resource }

-- a template's slots stand in its scope alone
abbrev pub HasPlainBody : TemplateData → Type 0
HasPlainBody t = has_slot t.body ≡ false

-- there is an id for each slot, and for no other
pub record Fills (w : SlotValues) (t : TemplateData) : Type 0 where
  pub principal : is_some w.principal ≡ asks_slot t.principal
  pub resource : is_some w.resource ≡ asks_slot t.resource

-- the link with the id
abbrev pub linked_policy : List ℕ → SlotValues → TemplateData → PolicyData
linked_policy id w t = record {
  id = id;
  effect = t.effect;
  principal = linked w.principal t.principal;
  action = t.action;
  resource = linked w.resource t.resource;
  body = t.body;
  condition = own_condition w t;
  link = Some (record { template = t.id; values = w });
}
