-- A set without one of its entries.
use Rattle.std.specs.Prelude.{◌≡◌, ℕ, Bool, false, not, List, Option, Some, None, filter, if◌then◌else◌}
use Rattle.std.specs.List.{list_any}
use Rattle.std.specs.Option.{option_map_or}
use Rattle.std.specs.Ordering.{is_eq}
use Rattle.policy_values.specs.Uid.{text_cmp}
use Rattle.policy_set.specs.Data.{TemplateData, PolicyData}
use Rattle.policy_set.specs.PolicySet.{PolicySetData, is_taken}
use Rattle.policy_set.specs.declared.policy_set.RemovalError.{RemovalError}
use Rattle.policy_set.specs.declared.policy_set.RemovalError.TheVariants.{UnknownPolicy, TemplateInUse}

-- whether it has another id
abbrev pub is_another_template : List ℕ → TemplateData → Bool
is_another_template id t = not (is_eq (text_cmp id t.id))

abbrev pub is_another_policy : List ℕ → PolicyData → Bool
is_another_policy id p = not (is_eq (text_cmp id p.id))

-- the set without what has the id
abbrev pub without : List ℕ → PolicySetData → PolicySetData
without id s = record {
  templates = filter (is_another_template id) s.templates;
  policies = filter (is_another_policy id) s.policies;
}

-- whether a link of the set stands on the template with the id
abbrev pub is_linked : PolicySetData → List ℕ → Bool
is_linked s id = list_any (λ p. option_map_or (λ l. is_eq (text_cmp id l.template)) p.link false) s.policies

-- why an entry is not removed: no entry has the id; a link stands on it
pub data RemovalFault : Type 0 where
  unknown_policy : RemovalFault
  template_in_use : RemovalFault

abbrev pub removal_fault : PolicySetData → List ℕ → Option RemovalFault
removal_fault s id =
    if is_taken s id then (if is_linked s id then Some template_in_use else None) else Some unknown_policy

-- why the set still has what has the id: nothing had it; a link stands on it
abbrev pub IsNotRemoved : PolicySetData → List ℕ → RemovalError → Type 0
IsNotRemoved s id (UnknownPolicy u) = (u.now ≡ id) × (removal_fault s id ≡ Some unknown_policy)
IsNotRemoved s id (TemplateInUse u) = (u.now ≡ id) × (removal_fault s id ≡ Some template_in_use)
