-- Permits whose scopes let a principal in.
use Rattle.std.specs.Prelude.{ℕ, Bool, true, false, ◌||◌, ◌&&◌, List, Option, Some}
use Rattle.std.specs.List.{list_any}
use Rattle.std.specs.Ordering.{is_eq}
use Rattle.policy_values.specs.declared.entity_uid.EntityUID.{EntityUID}
use Rattle.policy_values.specs.Uid.{text_cmp, uid_eq}
use Rattle.entity_store.specs.Store.{StoredEntity}
use Rattle.policy_set.specs.Data.{PolicyData}
use Rattle.policy_set.specs.Response.{if_permit}
use Rattle.policy_set.specs.declared.constraint.EntityReference.{EntityReference}
use Rattle.policy_set.specs.declared.constraint.EntityReference.TheVariants.{EUID, Slot}
use Rattle.policy_set.specs.declared.constraint.PrincipalOrResourceConstraint.{PrincipalOrResourceConstraint}
use Rattle.policy_set.specs.declared.constraint.PrincipalOrResourceConstraint.TheVariants.{Any, Eq, In, Is, IsIn}
use Rattle.policy_set.specs.declared.constraint.ActionConstraint.{ActionConstraint}
use Rattle.policy_set.specs.declared.constraint.ActionConstraint.TheVariants as action

-- whether the entity is the one that is named; a slot names none
abbrev pub is_named : StoredEntity → EntityReference → Bool
is_named e (EUID u) = uid_eq e.uid u
is_named e Slot = false

-- whether it is that one, or has it as an ancestor
abbrev pub is_under : StoredEntity → EntityReference → Bool
is_under e (EUID u) = uid_eq e.uid u || list_any (uid_eq u) e.ancestors
is_under e Slot = false

abbrev pub is_of_type : StoredEntity → List ℕ → Bool
is_of_type e n = is_eq (text_cmp e.uid.entity_type n)

-- whether the entity is what the scope asks of the principal
abbrev pub takes_principal : StoredEntity → PrincipalOrResourceConstraint → Bool
takes_principal e Any = true
takes_principal e (Eq r) = is_named e r
takes_principal e (In r) = is_under e r
takes_principal e (Is n) = is_of_type e n
takes_principal e (IsIn n r) = is_of_type e n && is_under e r

-- whether the action may be what the scope asks of it: it is no other than the only one that is named
abbrev pub may_take_action : ActionConstraint → Option EntityUID → Bool
may_take_action (action.Eq u) (Some a) = uid_eq a u
may_take_action c o = true

-- whether the policy permits, and its scope may let the entity in
abbrev pub lets_in : Option EntityUID → StoredEntity → PolicyData → Bool
lets_in o e p = if_permit p.effect (takes_principal e p.principal && may_take_action p.action o) false
