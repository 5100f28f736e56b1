-- What the edits of a document come to, and how it is said which one is refused.
use Rattle.std.specs.Prelude.{ℕ, ◌+◌, List, [], ◌∷◌, ◌++◌, map, Option, None, option_map, codes, decimal, if◌then◌else◌}
use Rattle.std.specs.Option.{option_or}
use Rattle.finding_messages.specs.Written.{findings_text}
use Rattle.policy_set.specs.Condition.{has_scope_slot}
use Rattle.policy_set.specs.PolicySet.{PolicySetData}
use Rattle.policy_set.specs.Removal.{RemovalFault, unknown_policy, template_in_use}
use Rattle.policy_set.specs.declared.policy_set.PolicySetError.{PolicySetError}
use Rattle.policy_set.specs.declared.policy_set.PolicySetError.TheVariants as fault
use Rattle.schema_core.specs.Schema.{SchemaData}
use Rattle.json_document.specs.Policies.{slot_pairs}
use Rattle.json_document.specs.declared.document.Document.{Document}
use Rattle.json_document.specs.declared.edit.Edit.{Edit}
use Rattle.json_document.specs.declared.edit.Edit.TheVariants.{Policy, Link, Remove}
use Rattle.live_manifest.specs.Edits.{Edit as SetEdit, add_static, add_template, link, remove, Refusal, not_added, not_removed, errors, no_policies, made, refusal, after_edits}

-- what an edit does to a set of policies
abbrev pub edit_for : Edit → SetEdit
edit_for (Policy t) = if has_scope_slot t then add_template t else add_static t
edit_for (Link l) = link l.template l.id (slot_pairs l.values)
edit_for (Remove id) = remove id

-- the document's edits
abbrev pub edits_in : Document → List SetEdit
edits_in d = map edit_for d.edits

-- its policies after its edits
abbrev pub policies_after : Document → PolicySetData
policies_after d = after_edits d.schema no_policies (edits_in d)

-- the first edit that is refused, counted from a number on, and why; those before are made
abbrev pub first_refused : SchemaData → ℕ → PolicySetData → List SetEdit → Option (ℕ × Refusal)
first_refused schema n s [] = None
first_refused schema n s (e ∷ es) = option_or (option_map (λ why. (n, why)) (refusal schema s e))
    (first_refused schema (n + 1) (made e s) es)

-- the first of the document's
abbrev pub refused_edit : Document → Option (ℕ × Refusal)
refused_edit d = first_refused d.schema 0 no_policies (edits_in d)

-- why a set does not take an entry; that there is no memory is no fault of a set
abbrev pub fault_text : PolicySetError → List ℕ
fault_text (fault.DuplicateId id) = codes "duplicate id\n"
fault_text (fault.UnknownTemplate id) = codes "unknown template\n"
fault_text (fault.SlotMissing slot) = codes "slot missing\n"
fault_text (fault.SlotExtra slot) = codes "slot extra\n"
fault_text fault.OutOfMemory = []

-- why nothing is removed
abbrev pub removal_text : RemovalFault → List ℕ
removal_text unknown_policy = codes "unknown id\n"
removal_text template_in_use = codes "template in use\n"

-- why an edit is refused: the set's fault, or what is found of the entry on the next lines
abbrev pub refusal_text : Refusal → List ℕ
refusal_text (not_added f) = fault_text f
refusal_text (not_removed f) = removal_text f
refusal_text (errors found) = codes "findings\n" ++ findings_text found

-- the edit, and why it is refused
abbrev pub edit_text : ℕ × Refusal → List ℕ
edit_text r = codes "edit " ++ (decimal r.0 ++ (codes ": " ++ refusal_text r.1))
