-- What is tested of a set of policies before the conditions of its policies are typed.
use Rattle.std.specs.Prelude.{Bool, not, ◌&&◌, ◌==◌, List, length, if◌then◌else◌}
use Rattle.std.specs.List.{list_all}
use Rattle.schema_core.specs.Schema.{SchemaData}
use Rattle.policy_set.specs.Data.{TemplateData, PolicyData}
use Rattle.policy_set.specs.Condition.{condition_of, has_scope_slot, written_of}
use Rattle.policy_set.specs.PolicySet.{PolicySetData, written, links}
use Rattle.policy_scope.specs.Names.{entity_type_findings, enum_findings, action_id_findings, slot_type_findings}
use Rattle.policy_scope.specs.Scope.{application_findings}
use Rattle.policy_typecheck.specs.Policies.{is_accepted, is_too_deep}

-- nothing is found
abbrev pub is_none : {X : Type 0} → List X → Bool
is_none xs = length xs == 0

module _ (schema : SchemaData) where
  -- a template is typed where it may be linked; of a static policy, whose own condition is typed later, the
  -- depth is looked at
  abbrev pub is_ready : TemplateData → Bool
  is_ready t = if has_scope_slot t then is_accepted schema t else not (is_too_deep schema t)

  -- nothing is found of the names and of the scope of a template or a static policy
  abbrev pub keeps_rules : TemplateData → Bool
  keeps_rules t =
      is_none (entity_type_findings schema t.id (condition_of t))
      && (is_none (enum_findings schema t.id (condition_of t))
      && (is_none (action_id_findings schema t.id (condition_of t))
      && (is_none (application_findings schema t)
      && is_ready t)))

  -- nor of the ids that a link gives for slots and of its own scope
  abbrev pub link_keeps_rules : PolicyData → Bool
  link_keeps_rules p =
      is_none (slot_type_findings schema p) && is_none (application_findings schema (written_of p))

  -- all that is written keeps the rules, and each link does
  abbrev pub keep_rules : PolicySetData → Bool
  keep_rules s = list_all keeps_rules (written s) && list_all link_keeps_rules (links s)
