-- An accepted set is accepted after an edit.
use Rattle.std.proofs.Common.{◌≡◌, List, [], ◌∷◌, Option, Some, None, refl}
use Rattle.schema_core.specs.Schema.{SchemaData}
use Rattle.policy_set.specs.Data.{TemplateData}
use Rattle.policy_set.specs.Links.{linked_policy}
use Rattle.policy_set.specs.PolicySet.{PolicySetData, id_fault, link_fault, slot_values, template_at}
use Rattle.policy_set.specs.declared.policy_set.PolicySetError.{PolicySetError}
use Rattle.findings.specs.declared.error.ValidationError.{ValidationError}
use Rattle.finding_messages.specs.Findings.{Findings}
use Rattle.policy_validate.specs.Accepted.{IsAccepted}
use Rattle.policy_validate.specs.Entries.{AcceptanceIsByEntry, EntriesAreAccepted, EntryErrorsAreExact, IsByEntry, findings_of_written}
use Rattle.live_manifest.specs.Edits.{with_link as with_the_link, Edit, add_static, add_template, link, remove, Refusal, made, refused_with, or_findings, link_findings, refusal, unless_refused}
use Rattle.live_manifest.specs.Laws.{EditsKeepAcceptance}

none_refused : (es : List ValidationError) (found : Findings) → refused_with es found ≡ None → es ≡ []
none_refused [] found h = refl
none_refused (e ∷ es) found h = absurd (cc h)

none_found : (o : Option PolicySetError) (found : Findings) → or_findings o found ≡ None → found.errors ≡ []
none_found None found h = none_refused found.errors found h
none_found (Some e) found h = absurd (cc h)

module _ (schema : SchemaData) (exact : EntryErrorsAreExact schema) (s : PolicySetData) (accepted : IsAccepted schema s) (by : IsByEntry schema s) where
  edit_made : (e : Edit) → refusal schema s e ≡ None → IsAccepted schema (made e s)
  edit_made (add_static t) h = by.with_static t (exact.written t (none_found (id_fault s t.id) (findings_of_written schema t) h))
  edit_made (add_template t) h = by.with_template t (exact.written t (none_found (id_fault s t.id) (findings_of_written schema t) h))
  edit_made (remove id) h = by.without id
  edit_made (link template id values) h = at (template_at s template) (none_found (link_fault s template id values) (link_findings schema (template_at s template) id values) h)
    where
      at : (o : Option TemplateData) → (link_findings schema o id values).errors ≡ [] → IsAccepted schema (with_the_link o id values s)
      at None k = accepted
      at (Some t) k = by.with_link (linked_policy id (slot_values values) t) refl (exact.linked (linked_policy id (slot_values values) t) k)

  after : (o : Option Refusal) (e : Edit) → refusal schema s e ≡ o → IsAccepted schema (unless_refused o e s)
  after None e h = edit_made e h
  after (Some r) e h = accepted

pub edits_keep : EntriesAreAccepted → AcceptanceIsByEntry → EditsKeepAcceptance
edits_keep exact by schema s set accepted e = after schema (exact schema) s accepted (by schema s set accepted) (refusal schema s e) e refl
