-- The condition of a template: ((principal && action) && resource) && body, where a part of the scope that
-- asks for nothing is the literal true.
use Rattle.std.specs.Prelude.{◌≡◌, ◌<◌, ◌||◌, ℕ, Bool, true, false, List, None, map}
use Rattle.policy_values.specs.declared.entity_uid.EntityUID.{EntityUID}
use Rattle.policy_expressions.specs.declared.kinds.Literal.TheVariants as literal
use Rattle.policy_expressions.specs.declared.kinds.Var.{Var}
use Rattle.policy_expressions.specs.declared.kinds.Var.TheVariants as variable
use Rattle.policy_expressions.specs.declared.kinds.SlotId.{SlotId}
use Rattle.policy_expressions.specs.declared.kinds.SlotId.TheVariants.{Principal, Resource}
use Rattle.policy_expressions.specs.declared.kinds.BinaryOp.{BinaryOp}
use Rattle.policy_expressions.specs.declared.kinds.BinaryOp.TheVariants.{Eq as IsEqual, In as IsIn}
use Rattle.policy_expressions.specs.Tree.{Trees, trees_of, depth_of, Mark, lit, var, slot, conj, binary, set, is_type}
use Rattle.policy_expressions.specs.Plain.{Plain, unmarked}
use Rattle.policy_expressions.specs.Slots.{has_slot}
use Rattle.policy_set.specs.Data.{TemplateData, PolicyData}
use Rattle.policy_set.specs.declared.constraint.Effect.{Effect}
use Rattle.policy_set.specs.declared.constraint.EntityReference.{EntityReference}
use Rattle.policy_set.specs.declared.constraint.EntityReference.TheVariants.{EUID, Slot}
use Rattle.policy_set.specs.declared.constraint.PrincipalOrResourceConstraint.{PrincipalOrResourceConstraint}
use Rattle.policy_set.specs.declared.constraint.PrincipalOrResourceConstraint.TheVariants.{Any, Eq, In, Is}
use Rattle.policy_set.specs.declared.constraint.PrincipalOrResourceConstraint.TheVariants as scope
use Rattle.policy_set.specs.declared.constraint.ActionConstraint.{ActionConstraint}
use Rattle.policy_set.specs.declared.constraint.ActionConstraint.TheVariants as action
use Rattle.policy_expressions.specs.declared.expr.BuildError.{BuildError}
use Rattle.policy_expressions.specs.declared.expr.BuildError.TheVariants as build
use Rattle.policy_set.specs.declared.template.TemplateError.{TemplateError}
use Rattle.policy_set.specs.declared.template.TemplateError.TheVariants.{Nested, OutOfMemory}

abbrev pub anything : Plain
anything = lit (literal.Bool true) unmarked

abbrev pub id_literal : EntityUID → Plain
id_literal uid = lit (literal.EntityUID uid) unmarked

-- the variable beside whose constraint the slot stands
abbrev pub variable_of : SlotId → Var
variable_of Principal = variable.Principal
variable_of Resource = variable.Resource

-- the entity that is named, or the slot
abbrev pub referred : SlotId → EntityReference → Plain
referred i (EUID uid) = id_literal uid
referred i Slot = slot i unmarked

-- the variable compared with an entity
abbrev pub compared : BinaryOp → SlotId → EntityReference → Plain
compared op i r = binary op (var (variable_of i) unmarked) (referred i r) unmarked

abbrev pub of_type : SlotId → List ℕ → Plain
of_type i n = is_type (var (variable_of i) unmarked) n unmarked

-- what the scope asks of the principal or the resource
abbrev pub scope_part : SlotId → PrincipalOrResourceConstraint → Plain
scope_part i Any = anything
scope_part i (Eq r) = compared IsEqual i r
scope_part i (In r) = compared IsIn i r
scope_part i (Is n) = of_type i n
scope_part i (scope.IsIn n r) = conj (of_type i n) (compared IsIn i r) unmarked

-- the literals of the ids
abbrev pub literals : List EntityUID → Trees (Mark (Unit {0}))
literals uids = trees_of (map id_literal uids)

-- what the scope asks of the action
abbrev pub action_part : ActionConstraint → Plain
action_part action.Any = anything
action_part (action.Eq uid) = binary IsEqual (var variable.Action unmarked) (id_literal uid) unmarked
action_part (action.In uids) =
    binary IsIn (var variable.Action unmarked) (set (literals uids) unmarked) unmarked

abbrev pub scope_of : PrincipalOrResourceConstraint → ActionConstraint → PrincipalOrResourceConstraint → Plain
scope_of p a r =
    conj (conj (scope_part Principal p) (action_part a) unmarked) (scope_part Resource r) unmarked

abbrev pub condition_of : TemplateData → Plain
condition_of t = conj (scope_of t.principal t.action t.resource) t.body unmarked

-- whether a constraint has a slot
abbrev pub is_slot : EntityReference → Bool
is_slot Slot = true
is_slot r = false

abbrev pub asks_slot : PrincipalOrResourceConstraint → Bool
asks_slot (Eq r) = is_slot r
asks_slot (In r) = is_slot r
asks_slot (scope.IsIn n r) = is_slot r
asks_slot c = false

-- whether a template is to be linked: its scope has a slot
abbrev pub has_scope_slot : TemplateData → Bool
has_scope_slot t = asks_slot t.principal || asks_slot t.resource

-- the policy that a template without slots is
abbrev pub static_of : TemplateData → PolicyData
static_of t = record {
  id = t.id;
  effect = t.effect;
  principal = t.principal;
  action = t.action;
  resource = t.resource;
  body = t.body;
  condition = condition_of t;
  link = None;
}

-- a policy as it would be written by itself
abbrev pub written_of : PolicyData → TemplateData
written_of p = record {
  id = p.id;
  effect = p.effect;
  principal = p.principal;
  action = p.action;
  resource = p.resource;
  body = p.body;
}

-- what holds of each policy of a set: its condition is that of its scope and its body, and has no slot
pub record IsPolicy (p : PolicyData) : Type 0 where
  pub condition : p.condition ≡ condition_of (written_of p)
  pub no_slot : has_slot p.condition ≡ false

-- the body is the right side of the condition
abbrev pub right_of : Plain → Plain
right_of (conj x y a) = y
right_of e = e

-- the template of these parts, with its whole condition
abbrev pub template_with : List ℕ → Effect → PrincipalOrResourceConstraint →
    ActionConstraint → PrincipalOrResourceConstraint → Plain → TemplateData
template_with id effect p a r whole =
    record { id = id; effect = effect; principal = p; action = a; resource = r; body = right_of whole }

-- the template of these parts, with its body
abbrev pub template_of :
    List ℕ → Effect → PrincipalOrResourceConstraint → ActionConstraint → PrincipalOrResourceConstraint → Plain
    → TemplateData
template_of id effect p a r body =
    record { id = id; effect = effect; principal = p; action = a; resource = r; body = body }

-- the condition would be nested deeper than 400
abbrev pub IsTooDeep : TemplateData → Type 0
IsTooDeep t = 400 < depth_of (condition_of t)

-- what holds of each template: its condition is that of its scope and its body, which has no slot
pub record IsTemplate (t : TemplateData) (whole : Plain) : Type 0 where
  pub condition : whole ≡ condition_of t
  pub body : has_slot t.body ≡ false

abbrev pub template_error : BuildError → TemplateError
template_error build.Nested = Nested
template_error build.OutOfMemory = OutOfMemory
