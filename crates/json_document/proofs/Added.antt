-- What is added to a set at an index, and for what fault it is not.
use Rattle.std.proofs.Common.{◌≡◌, ◌∙◌, ℕ, Option, Some, None, Ok, ap, refl, sym}
use Rattle.std.specs.Prelude.{IsSomeAnd}
use Rattle.policy_values.specs.declared.entity_uid.EntityUID.{EntityUID}
use Rattle.policy_set.specs.Data.{TemplateData}
use Rattle.policy_set.specs.Links.{linked_policy}
use Rattle.policy_set.specs.PolicySet.{PolicySetData, slot_values, with_policy}
use Rattle.policy_set.specs.declared.policy_set.PolicySetError.{PolicySetError}
use Rattle.json_document.specs.declared.link.TemplateLink.{TemplateLink}
use Rattle.json_document.specs.Policies.{slot_pairs, unless_fault, with_link}

-- where no fault stands against it, the set is what is added
pub none_against : (i : ℕ) (o : Option PolicySetError) (set next : PolicySetData) → o ≡ None → next ≡ set → unless_fault i o set ≡ Ok next
none_against i o set next h e = rw h (ap Ok (sym e))

values_back : (p r : Option EntityUID) → slot_values (slot_pairs (record { principal = p; resource = r })) ≡ record { principal = p; resource = r }
values_back None None = refl
values_back None (Some u) = refl
values_back (Some u) None = refl
values_back (Some u) (Some v) = refl

pub linked_by : (l : TemplateLink) (o : Option TemplateData) (set next : PolicySetData) → IsSomeAnd o (λ t. next ≡ with_policy (linked_policy l.id (slot_values (slot_pairs l.values)) t) set) → next ≡ with_link l o set
linked_by l None set next h = absurd h
linked_by l (Some t) set next h = h ∙ ap (λ w. with_policy (linked_policy l.id w t) set) (values_back l.values.principal l.values.resource)
