-- Sets of policies under edits.
use Rattle.std.specs.Prelude.{ℕ, List, [], ◌∷◌, Option, Some, None}
use Rattle.std.specs.Option.{option_map}
use Rattle.policy_values.specs.declared.entity_uid.EntityUID.{EntityUID}
use Rattle.policy_expressions.specs.declared.kinds.SlotId.{SlotId}
use Rattle.policy_set.specs.Data.{TemplateData, PolicyData}
use Rattle.policy_set.specs.Condition.{static_of}
use Rattle.policy_set.specs.Links.{linked_policy}
use Rattle.policy_set.specs.PolicySet.{PolicySetData, id_fault, link_fault, slot_values, template_at, with_policy, with_template}
use Rattle.policy_set.specs.Removal.{RemovalFault, removal_fault, without}
use Rattle.policy_set.specs.declared.policy_set.PolicySetError.{PolicySetError}
use Rattle.schema_core.specs.Schema.{SchemaData}
use Rattle.findings.specs.declared.error.ValidationError.{ValidationError}
use Rattle.finding_messages.specs.Findings.{Findings}
use Rattle.policy_validate.specs.Entries.{findings_of_written, findings_of_link}

-- an edit: a static policy, a template, or a link (of the template with an id, under its own, with ids for
-- slots) is added; what has an id is removed
pub data Edit : Type 0 where
  add_static : TemplateData → Edit
  add_template : TemplateData → Edit
  link : List ℕ → List ℕ → List (SlotId × EntityUID) → Edit
  remove : List ℕ → Edit

-- why an edit is refused: the set does not take it; there is nothing to remove, or it is in use; there are
-- errors in what is added
pub data Refusal : Type 0 where
  not_added : PolicySetError → Refusal
  not_removed : RemovalFault → Refusal
  errors : Findings → Refusal

abbrev pub no_policies : PolicySetData
no_policies = record { templates = []; policies = [] }

-- the set with the link, where there is the template
abbrev pub with_link : Option TemplateData → List ℕ →
    List (SlotId × EntityUID) → PolicySetData → PolicySetData
with_link None id values s = s
with_link (Some t) id values s = with_policy (linked_policy id (slot_values values) t) s

-- the set with the edit made
abbrev pub made : Edit → PolicySetData → PolicySetData
made (add_static t) s = with_policy (static_of t) s
made (add_template t) s = with_template t s
made (link template id values) s = with_link (template_at s template) id values s
made (remove id) s = without id s

-- that there are errors in it
abbrev pub refused_with : List ValidationError → Findings → Option Refusal
refused_with [] found = None
refused_with (e ∷ es) found = Some (errors found)

-- a fault of the set comes first, and then what is found of the entry
abbrev pub or_findings : Option PolicySetError → Findings → Option Refusal
or_findings (Some e) found = Some (not_added e)
or_findings None found = refused_with found.errors found

-- the set with the edit, unless it is refused
abbrev pub unless_refused : Option Refusal → Edit → PolicySetData → PolicySetData
unless_refused None e s = made e s
unless_refused (Some r) e s = s

module _ (schema : SchemaData) where
  -- what is found of the link that would be made, where there is the template
  abbrev pub link_findings : Option TemplateData → List ℕ → List (SlotId × EntityUID) → Findings
  link_findings None id values = record { errors = []; warnings = [] }
  link_findings (Some t) id values = findings_of_link schema (linked_policy id (slot_values values) t)

  -- why the set refuses an edit
  abbrev pub refusal : PolicySetData → Edit → Option Refusal
  refusal s (add_static t) = or_findings (id_fault s t.id) (findings_of_written schema t)
  refusal s (add_template t) = or_findings (id_fault s t.id) (findings_of_written schema t)
  refusal s (link template id values) =
      or_findings (link_fault s template id values) (link_findings (template_at s template) id values)
  refusal s (remove id) = option_map not_removed (removal_fault s id)

  abbrev pub after_edit : PolicySetData → Edit → PolicySetData
  after_edit s e = unless_refused (refusal s e) e s

  -- the set after a list of edits, where a refused edit changes nothing
  abbrev pub after_edits : PolicySetData → List Edit → PolicySetData
  after_edits s [] = s
  after_edits s (e ∷ es) = after_edits (after_edit s e) es
