-- The findings on one entry of a set, and acceptance entry by entry.
use Rattle.std.specs.Prelude.{◌≡◌, ℕ, true, List, [], ◌++◌, Option, Some, None, length, flat_map, if◌then◌else◌}
use Rattle.schema_core.specs.Schema.{SchemaData}
use Rattle.policy_set.specs.Data.{TemplateData, PolicyData}
use Rattle.policy_set.specs.Condition.{static_of, written_of}
use Rattle.policy_set.specs.PolicySet.{PolicySetData, IsPolicySet, is_link, links, policy_at, template_at, with_policy, with_template, written}
use Rattle.policy_set.specs.Removal.{without}
use Rattle.finding_messages.specs.Findings.{Findings}
use Rattle.link_spec.specs.Accepted.{IsAcceptedTemplate}
use Rattle.link_spec.specs.Linked.{linked_envs}
use Rattle.policy_validate.specs.Accepted.{errors_of_written, errors_of_link, warnings_of, findings_of, IsAccepted, KeepsLinkRules}

module _ (schema : SchemaData) where
  -- what is found of a template or a static policy by itself, and of a link
  abbrev pub findings_of_written : TemplateData → Findings
  findings_of_written t = record { errors = errors_of_written schema t; warnings = warnings_of schema t }

  abbrev pub findings_of_link : PolicyData → Findings
  findings_of_link p = record { errors = errors_of_link schema p; warnings = [] }

  -- of a policy, which is a link or static
  abbrev pub findings_of_policy : PolicyData → Findings
  findings_of_policy p = if is_link p then findings_of_link p else findings_of_written (written_of p)

  -- of the template, or else of the policy
  abbrev pub findings_of_either : Option TemplateData → Option PolicyData → Findings
  findings_of_either (Some t) o = findings_of_written t
  findings_of_either None (Some p) = findings_of_policy p
  findings_of_either None None = record { errors = []; warnings = [] }

  -- of what has the id
  abbrev pub findings_of_entry : PolicySetData → List ℕ → Findings
  findings_of_entry s id = findings_of_either (template_at s id) (policy_at s id)

  -- in how many environments the condition of a policy is typed to find it: a link's is not
  abbrev pub steps_of_policy : PolicyData → ℕ
  steps_of_policy p = if is_link p then 0 else length (linked_envs schema (written_of p))

  abbrev pub steps_of_either : Option TemplateData → Option PolicyData → ℕ
  steps_of_either (Some t) o = length (linked_envs schema t)
  steps_of_either None (Some p) = steps_of_policy p
  steps_of_either None None = 0

  -- that of what has the id
  abbrev pub steps_of_entry : PolicySetData → List ℕ → ℕ
  steps_of_entry s id = steps_of_either (template_at s id) (policy_at s id)

  -- an accepted set is accepted with one more entry that is accepted by itself, and without what has an id
  pub record IsByEntry (s : PolicySetData) : Type 0 where
    pub with_static : (t : TemplateData) → IsAcceptedTemplate schema t →
        IsAccepted schema (with_policy (static_of t) s)
    pub with_template : (t : TemplateData) → IsAcceptedTemplate schema t →
        IsAccepted schema (with_template t s)
    pub with_link : (p : PolicyData) → is_link p ≡ true → KeepsLinkRules schema p →
        IsAccepted schema (with_policy p s)
    pub without : (id : List ℕ) → IsAccepted schema (without id s)

  -- no error is found of an entry only where it is accepted by itself
  pub record EntryErrorsAreExact : Type 0 where
    pub written : (t : TemplateData) → errors_of_written schema t ≡ [] → IsAcceptedTemplate schema t
    pub linked : (p : PolicyData) → errors_of_link schema p ≡ [] → KeepsLinkRules schema p

abbrev pub AcceptanceIsByEntry : Type 0
AcceptanceIsByEntry =
    (schema : SchemaData) (s : PolicySetData) → IsPolicySet s → IsAccepted schema s → IsByEntry schema s

abbrev pub EntriesAreAccepted : Type 0
EntriesAreAccepted = (schema : SchemaData) → EntryErrorsAreExact schema

-- the findings on a set are those of its entries: of each template and static policy, and then of each link,
-- in the order of the ids
pub record FindingsAreByEntry (schema : SchemaData) (s : PolicySetData) : Type 0 where
  pub errors :
      (findings_of schema s).errors ≡
      flat_map (λ t. (findings_of_entry schema s t.id).errors) (written s)
      ++ flat_map (λ p. (findings_of_entry schema s p.id).errors) (links s)
  pub warnings : (findings_of schema s).warnings ≡
      flat_map (λ t. (findings_of_entry schema s t.id).warnings) (written s)

abbrev pub FindingsFollowEntries : Type 0
FindingsFollowEntries =
    (schema : SchemaData) (s : PolicySetData) → IsPolicySet s → FindingsAreByEntry schema s
