-- The test of the action in the scope of a policy, where an environment decides it.
use Rattle.std.specs.Prelude.{Bool, false, Option, Some}
use Rattle.std.specs.List.{list_any}
use Rattle.policy_values.specs.declared.entity_uid.EntityUID.{EntityUID}
use Rattle.policy_values.specs.Uid.{uid_eq}
use Rattle.policy_expressions.specs.Tree.{conj}
use Rattle.policy_expressions.specs.Plain.{Plain, unmarked}
use Rattle.policy_set.specs.Condition.{anything}
use Rattle.policy_set.specs.declared.constraint.ActionConstraint.{ActionConstraint}
use Rattle.policy_set.specs.declared.constraint.ActionConstraint.TheVariants.{In}

-- the scope asks for one of a list of actions, and the action itself is in the list
abbrev pub lists_action : ActionConstraint → Option EntityUID → Bool
lists_action (In us) (Some u) = list_any (uid_eq u) us
lists_action c o = false

-- the condition of a policy, whose scope asks nothing of the action
abbrev pub sides_for_any : Plain → Plain
sides_for_any (conj p a m) = conj p anything unmarked
sides_for_any e = e

abbrev pub scope_for_any : Plain → Plain
scope_for_any (conj x r m) = conj (sides_for_any x) r unmarked
scope_for_any e = e

abbrev pub condition_for_any : Plain → Plain
condition_for_any (conj x b m) = conj (scope_for_any x) b unmarked
condition_for_any e = e
