-- The set of policies of a document.
use Rattle.std.specs.Prelude.{ℕ, ◌+◌, List, [], ◌∷◌, ◌++◌, if◌then◌else◌, Option, Some, None, Result, Ok, Err}
use Rattle.policy_values.specs.declared.entity_uid.EntityUID.{EntityUID}
use Rattle.policy_expressions.specs.declared.kinds.SlotId.{SlotId}
use Rattle.policy_expressions.specs.declared.kinds.SlotId.TheVariants.{Principal, Resource}
use Rattle.policy_expressions.specs.declared.kinds.SlotValues.{SlotValues}
use Rattle.policy_set.specs.Data.{TemplateData}
use Rattle.policy_set.specs.Condition.{has_scope_slot, static_of}
use Rattle.policy_set.specs.Links.{linked_policy}
use Rattle.policy_set.specs.PolicySet.{PolicySetData, id_fault, link_fault, template_at, with_policy, with_template}
use Rattle.policy_set.specs.declared.policy_set.PolicySetError.{PolicySetError}
use Rattle.policy_set.specs.declared.policy_set.PolicySetError.TheVariants as refused
use Rattle.serde_json.specs.Data.{Data, Items, no_items, item}
use Rattle.json_document.specs.declared.place.Place.{Place}
use Rattle.json_document.specs.declared.place.Place.TheVariants as place
use Rattle.json_document.specs.Policy.{entry_of}
use Rattle.json_document.specs.declared.link.TemplateLink.{TemplateLink}
use Rattle.json_document.specs.declared.policy.PolicyRead.{PolicyRead}
use Rattle.json_document.specs.declared.policy.PolicyRead.TheVariants.{Policy, Link, Nested}

abbrev pub no_policies : PolicySetData
no_policies = record { templates = []; policies = [] }

-- the place of the fault for which the policy at the index is not added; that there is no memory is no fault
-- of a set
abbrev pub place_at : ℕ → PolicySetError → Place
place_at i (refused.DuplicateId id) = place.PolicyDuplicate i
place_at i (refused.UnknownTemplate id) = place.UnknownTemplate i
place_at i (refused.SlotMissing slot) = place.SlotMissing i
place_at i (refused.SlotExtra slot) = place.SlotExtra i
place_at i refused.OutOfMemory = place.Policy i

-- the set, where no fault stands against it
abbrev pub unless_fault : ℕ → Option PolicySetError → PolicySetData → Result PolicySetData Place
unless_fault i None set = Ok set
unless_fault i (Some error) set = Err (place_at i error)

-- the set with a template, or with a static policy where no slot stands in its scope
abbrev pub with_written : TemplateData → PolicySetData → PolicySetData
with_written t set = if has_scope_slot t then with_template t set else with_policy (static_of t) set

-- the set with the policy too, unless its id stands already
abbrev pub added_template : ℕ → PolicySetData → TemplateData → Result PolicySetData Place
added_template i set t = unless_fault i (id_fault set t.id) (with_written t set)

-- an id beside its slot, where there is one
abbrev pub slot_pair : SlotId → Option EntityUID → List (SlotId × EntityUID)
slot_pair slot None = []
slot_pair slot (Some uid) = (slot, uid) ∷ []

-- the ids for slots, each beside its slot
abbrev pub slot_pairs : SlotValues → List (SlotId × EntityUID)
slot_pairs w = slot_pair Principal w.principal ++ slot_pair Resource w.resource

-- the set with the link of the template, where there is one
abbrev pub with_link : TemplateLink → Option TemplateData → PolicySetData → PolicySetData
with_link l None set = set
with_link l (Some t) set = with_policy (linked_policy l.id l.values t) set

-- the set with the link too, unless its id stands already, no template before it has the id that it links, or
-- its ids are not those for the template's slots
abbrev pub added_link : ℕ → PolicySetData → TemplateLink → Result PolicySetData Place
added_link i set l = unless_fault i (link_fault set l.template l.id (slot_pairs l.values))
    (with_link l (template_at set l.template) set)

-- the set with what was read at the index, or the fault
abbrev pub added_read : ℕ → PolicySetData → Option PolicyRead → Result PolicySetData Place
added_read i set None = Err (place.Policy i)
added_read i set (Some Nested) = Err (place.PolicyNested i)
added_read i set (Some (Policy t)) = added_template i set t
added_read i set (Some (Link l)) = added_link i set l

-- the next on what there is; else the fault
abbrev pub and_then : {A B : Type 0} → Result A Place → (A → Result B Place) → Result B Place
and_then (Ok x) f = f x
and_then (Err p) f = Err p

-- the set with the policy that the value is, at the index
abbrev pub added : ℕ → PolicySetData → Data → Result PolicySetData Place
added i set d = added_read i set (entry_of d)

-- the set with the policies of the items too, the first of which is at the index, or the place of the
-- first fault
abbrev pub policies_of : ℕ → PolicySetData → Items → Result PolicySetData Place
policies_of i set no_items = Ok set
policies_of i set (item d ds) = and_then (added i set d) (λ next. policies_of (i + 1) next ds)
