-- Sets of policies as plain data: templates, which have slots, and policies, which are static or links; each
-- ascending by id.
use Rattle.std.specs.Prelude.{◌≡◌, ⊤, ℕ, Bool, true, false, ◌||◌, not, nat_lt, List, [], ◌++◌, Option, Some, None, map, filter, fold, length, slice_get, is_some, IsSomeAnd, IfSome, IsTrue, cond, refl}
use Rattle.std.specs.Option.{option_or}
use Rattle.std.specs.BTreeMap.{BTreeMap, values}
use Rattle.std.specs.Coded.{Coded, coded_list, coded×, code_by}
use Rattle.std.specs.List.{AllByRecursion}
use Rattle.std.specs.List.Sorted.{IsStrictlySortedBy}
use Rattle.policy_values.specs.Keyed.{AreAtTheirKeys, value_at, with_value}
use Rattle.policy_values.specs.Uid.{text_cmp}
use Rattle.policy_values.specs.declared.entity_uid.EntityUID.{EntityUID}
use Rattle.policy_expressions.specs.declared.kinds.SlotId.{SlotId}
use Rattle.policy_expressions.specs.declared.kinds.SlotId.TheVariants.{Principal, Resource}
use Rattle.policy_expressions.specs.declared.kinds.SlotValues.{SlotValues}
use Rattle.policy_expressions.specs.Keys.{HasKeysOnce}
use Rattle.policy_set.specs.Data.{TemplateData, PolicyData, coded_template, coded_policy}
use Rattle.policy_set.specs.declared.constraint.PrincipalOrResourceConstraint.{PrincipalOrResourceConstraint}
use Rattle.policy_set.specs.Condition.{IsPolicy, asks_slot, has_scope_slot, written_of}
use Rattle.policy_set.specs.Links.{HasPlainBody, Fills, linked_policy}
use Rattle.policy_set.specs.declared.policy_set.PolicySetError.{PolicySetError}
use Rattle.policy_set.specs.declared.policy_set.PolicySetError.TheVariants.{DuplicateId, UnknownTemplate, SlotMissing, SlotExtra, OutOfMemory}

pub record PolicySetData : Type 0 where
  pub templates : List TemplateData
  pub policies : List PolicyData

abbrev pub coded_set : Coded PolicySetData
coded_set =
    code_by (List TemplateData × List PolicyData)
    (coded× (coded_list coded_template) (coded_list coded_policy))
    (λ s. (s.templates, s.policies))
    (λ p. record { templates = p.0; policies = p.1 })
    (λ _. refl)

-- the template with the id, where there is one
abbrev pub template_at : PolicySetData → List ℕ → Option TemplateData
template_at s id = value_at text_cmp (λ t. t.id) s.templates id

-- the policy with the id, where there is one
abbrev pub policy_at : PolicySetData → List ℕ → Option PolicyData
policy_at s id = value_at text_cmp (λ p. p.id) s.policies id

-- whether a template or a policy has the id
abbrev pub is_taken : PolicySetData → List ℕ → Bool
is_taken s id = is_some (template_at s id) || is_some (policy_at s id)

abbrev pub IsTaken : PolicySetData → List ℕ → Type 0
IsTaken s id = IsTrue (is_taken s id)

-- one more template at its place among ascending ones
abbrev pub placed : List TemplateData → TemplateData → List TemplateData
placed ts t = with_value text_cmp (λ u. u.id) t ts

-- the set with one more template, at its place
abbrev pub with_template : TemplateData → PolicySetData → PolicySetData
with_template t s = record s { templates = placed s.templates t }

-- the set with one more policy, at its place
abbrev pub with_policy : PolicyData → PolicySetData → PolicySetData
with_policy p s = record s { policies = with_value text_cmp (λ q. q.id) p s.policies }

-- each record of a policy's condition has each of its keys once
abbrev pub AreKeyedOnce : List PolicyData → Type 0
AreKeyedOnce ps = AllByRecursion (λ p. HasKeysOnce p.condition) ps

-- whether a policy is a link, and whether it is static
abbrev pub is_link : PolicyData → Bool
is_link p = is_some p.link

abbrev pub is_static : PolicyData → Bool
is_static p = not (is_link p)

-- the policies that are links
abbrev pub links : PolicySetData → List PolicyData
links s = filter is_link s.policies

-- the static policies, as they are written
abbrev pub statics : PolicySetData → List TemplateData
statics s = map written_of (filter is_static s.policies)

-- the templates and the static policies as they are written, ascending by id
abbrev pub written : PolicySetData → List TemplateData
written s = fold placed [] (s.templates ++ statics s)

-- the two are one slot
abbrev pub is_same_slot : SlotId → SlotId → Bool
is_same_slot Principal Principal = true
is_same_slot Resource Resource = true
is_same_slot i j = false

-- the ids that are given for a slot
abbrev pub given : List (SlotId × EntityUID) → SlotId → List EntityUID
given values i = map (λ v. v.1) (filter (λ v. is_same_slot v.0 i) values)

-- the first id that is given for each slot
abbrev pub slot_values : List (SlotId × EntityUID) → SlotValues
slot_values values = record {
  principal = slice_get (given values Principal) 0;
  resource = slice_get (given values Resource) 0;
}

-- a fault, where there is one
abbrev pub fault_if : Bool → PolicySetError → Option PolicySetError
fault_if true fault = Some fault
fault_if false fault = None

-- why nothing with the id can be added: a template or a policy has it
abbrev pub id_fault : PolicySetData → List ℕ → Option PolicySetError
id_fault s id = fault_if (is_taken s id) (DuplicateId id)

-- how many slots a constraint has
abbrev pub slot_count : PrincipalOrResourceConstraint → ℕ
slot_count c = cond (asks_slot c) 1 0

-- fewer ids are given than a constraint has slots
abbrev pub is_missing : PrincipalOrResourceConstraint → List EntityUID → Bool
is_missing c us = nat_lt (length us) (slot_count c)

-- more ids are given than a constraint has slots
abbrev pub is_extra : PrincipalOrResourceConstraint → List EntityUID → Bool
is_extra c us = nat_lt (slot_count c) (length us)

-- why a template can't be linked with what is given: a slot is missing; a slot that it doesn't have is given,
-- or one is given twice
abbrev pub slot_fault : TemplateData → List (SlotId × EntityUID) → Option PolicySetError
slot_fault t values =
    option_or (fault_if (is_missing t.principal (given values Principal)) (SlotMissing Principal))
    (option_or (fault_if (is_missing t.resource (given values Resource)) (SlotMissing Resource))
    (option_or (fault_if (is_extra t.principal (given values Principal)) (SlotExtra Principal))
    (fault_if (is_extra t.resource (given values Resource)) (SlotExtra Resource))))

-- with no template, that there is none; else what stands against this one
abbrev pub template_fault : Option TemplateData → List ℕ → List (SlotId × EntityUID) → Option PolicySetError
template_fault None id values = Some (UnknownTemplate id)
template_fault (Some t) id values = slot_fault t values

-- why a template can't be linked under the id: the id stands already; there is no such template; the slots
-- are not those given
abbrev pub link_fault : PolicySetData → List ℕ → List ℕ → List (SlotId × EntityUID) → Option PolicySetError
link_fault s template id values =
    option_or (id_fault s id) (template_fault (template_at s template) template values)

-- the policy is the link under the id of a template of the set that can be linked with what is given
abbrev pub IsLinkWith : PolicySetData → List ℕ → List ℕ → List (SlotId × EntityUID) → PolicyData → Type 0
IsLinkWith s template id values p =
    (template_fault (template_at s template) template values ≡ None)
    × IsSomeAnd (template_at s template) (λ t. p ≡ linked_policy id (slot_values values) t)

-- nothing stands against the link under the id, and the new set is the old one with it
abbrev pub IsLinkAdded : PolicySetData → PolicySetData → List ℕ → List ℕ → List (SlotId × EntityUID) → Type 0
IsLinkAdded old new template id values =
    (link_fault old template id values ≡ None)
    × IsSomeAnd (template_at old template)
    (λ t. new ≡ with_policy (linked_policy id (slot_values values) t) old)

-- the error is this fault, or that there is no memory
abbrev pub IsNotAdded : Option PolicySetError → PolicySetError → Type 0
IsNotAdded fault OutOfMemory = ⊤
IsNotAdded fault error = fault ≡ Some error

-- what is to be linked: its scope has a slot, and its body has none
pub record IsToLink (t : TemplateData) : Type 0 where
  pub slot : IsTrue (has_scope_slot t)
  pub body : HasPlainBody t

-- the policy is the link of the template with these ids
abbrev pub IsLinkOf : PolicyData → SlotValues → TemplateData → Type 0
IsLinkOf p w t = Fills w t × (p ≡ linked_policy p.id w t)

-- where the policy is a link, it is that of a template of the set
abbrev pub IsLinkedIn : PolicySetData → PolicyData → Type 0
IsLinkedIn s p = IfSome p.link (λ l. IsSomeAnd (template_at s l.template) (IsLinkOf p l.values))

-- what a set keeps: ids ascend, and stand once among templates and policies; each link is that of a template
-- of the set
pub record IsPolicySet (s : PolicySetData) : Type 0 where
  pub template_ids : IsStrictlySortedBy text_cmp (map (λ t. t.id) s.templates)
  pub policy_ids : IsStrictlySortedBy text_cmp (map (λ p. p.id) s.policies)
  pub apart : AllByRecursion (λ p. template_at s p.id ≡ None) s.policies
  pub templates : AllByRecursion IsToLink s.templates
  pub policies : AllByRecursion IsPolicy s.policies
  pub links : AllByRecursion (IsLinkedIn s) s.policies

-- the maps that hold a set: each id is that of what stands there
pub record HoldsSet (templates : BTreeMap (List ℕ) TemplateData)
    (policies : BTreeMap (List ℕ) PolicyData) : Type 0 where
  pub template_ids : AreAtTheirKeys text_cmp (λ t. t.id) templates
  pub policy_ids : AreAtTheirKeys text_cmp (λ p. p.id) policies
  pub whole : IsPolicySet (record { templates = values templates; policies = values policies })
