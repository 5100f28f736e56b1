-- What is kept over an edit.
use Rattle.std.proofs.Common.{◌≡◌, ℕ, false, List, Option, Some, None, IfSome, refl, sym, ap, ◌∙◌, subst}
use Rattle.std.specs.Prelude.{is_some}
use Rattle.policy_values.specs.Keyed.{has_key}
use Rattle.policy_values.proofs.Keyed.{value_named}
use Rattle.std.proofs.lemmas.Map.Lookups.{exact_bytes}
use Rattle.policy_values.specs.Uid.{text_cmp}
use Rattle.schema_core.specs.Schema.{SchemaData}
use Rattle.policy_set.specs.Data.{PolicyData, TemplateData}
use Rattle.policy_set.specs.PolicySet.{IsPolicySet, PolicySetData, is_taken, policy_at, template_at, with_policy, with_template}
use Rattle.policy_set.specs.Removal.{removal_fault, without}
use Rattle.policy_validate.proofs.AllWritten.{all_found}
use Rattle.policy_validate.specs.Accepted.{IsAccepted}
use Rattle.manifest_core.specs.Manifest.{Manifest}
use Rattle.manifest_computation.specs.Computed.{IsManifestOf}
use Rattle.plain_lemmas.proofs.Booleans.{or_right_true}
use Rattle.live_manifest.specs.Adding.{AddsTo, Tries}
use Rattle.live_manifest.specs.Edits.{Edit, add_template, made, not_removed, refusal, remove, unless_refused}
use Rattle.live_manifest.specs.Kept.{IsKept}
use Rattle.live_manifest.specs.Laws.{EditsKeepAcceptance}
use Rattle.live_manifest.specs.Tries.{HaveTries}
use Rattle.std.specs.Option.{option_map}
use Rattle.live_manifest.proofs.Taking.{all_left, no_fault, unlinked}

module _ (keeps : EditsKeepAcceptance) (schema : SchemaData) (s : PolicySetData) (set : IsPolicySet s) where
  pub accepted_made : IsAccepted schema s → (e : Edit) → refusal schema s e ≡ None → IsAccepted schema (made e s)
  accepted_made accepted e none = subst (IsAccepted schema) (ap (λ o. unless_refused o e s) none) (keeps schema s set accepted e)

  -- with one more policy
  pub policy_kept : (before after : Tries) (m n : Manifest) → IsKept (record { schema = schema; policies = s; manifest = m }) → HaveTries schema before s.policies →
      (e : Edit) → refusal schema s e ≡ None → (p : PolicyData) → made e s ≡ with_policy p s → is_taken s p.id ≡ false → AddsTo schema (with_policy p s) p.id before after m n →
      IsKept (record { schema = schema; policies = with_policy p s; manifest = n }) × HaveTries schema after (with_policy p s).policies
  policy_kept before after m n kept have e none p is free adds =
      let accepted : IsAccepted schema (with_policy p s) = subst (IsAccepted schema) is (accepted_made kept.accepted e none) in
      let both = adds s p refl (record { policies = refl; free = free; accepted = accepted }) kept.manifest have in
      (record { accepted = accepted; manifest = both.0 }, both.1)

  -- with one more template
  pub template_kept : (m : Manifest) → IsKept (record { schema = schema; policies = s; manifest = m }) → (t : TemplateData) → refusal schema s (add_template t) ≡ None → IsKept (record { schema = schema; policies = with_template t s; manifest = m })
  template_kept m kept t none = record { accepted = accepted_made kept.accepted (add_template t) none; manifest = kept.manifest }

  -- without an entry
  pub removed_kept : (m : Manifest) → IsAccepted schema s → (id : List ℕ) → removal_fault s id ≡ None → IsManifestOf schema (without id s).policies m → IsKept (record { schema = schema; policies = without id s; manifest = m })
  removed_kept m accepted id free manifest = record { accepted = accepted_made accepted (remove id) (ap (option_map not_removed) free); manifest = manifest }

pub same_policies : (s : PolicySetData) (id : List ℕ) → policy_at s id ≡ None → (without id s).policies ≡ s.policies
same_policies s id none = all_left (λ p. p.id) id s.policies none

-- a policy of a set can be taken out
pub policy_removed : (s : PolicySetData) → IsPolicySet s → (id : List ℕ) (p : PolicyData) → policy_at s id ≡ Some p → removal_fault s id ≡ None
policy_removed s set id p is =
    let same : p.id ≡ id = subst (λ o. IfSome o (λ q. q.id ≡ id)) is (value_named text_cmp (λ q. q.id) exact_bytes s.policies id) in
    let none : template_at s id ≡ None = ap (template_at s) (sym same) ∙ all_found (λ q. template_at s q.id ≡ None) (has_key text_cmp (λ q. q.id) id) s.policies set.apart p is in
    no_fault s id (or_right_true (is_some (template_at s id)) (is_some (policy_at s id)) (ap is_some is)) (unlinked s set.links id none)
