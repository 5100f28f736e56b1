-- Levels are sound, of policies of accepted sets.
use Rattle.std.proofs.Common.{◌≡◌, ℕ, true, false, not, ◌||◌, Option, Some, None, is_some, IfSome, IsSomeAnd, refl, sym, ap, ◌∙◌, subst}
use Rattle.std.specs.List.{AllByRecursion}
use Rattle.policy_values.specs.Keyed.{has_key}
use Rattle.policy_values.specs.Uid.{text_cmp}
use Rattle.policy_expressions.specs.Keys.{HasKeysOnce}
use Rattle.policy_expressions.specs.Plain.{Plain}
use Rattle.policy_expressions.specs.Slots.{has_slot}
use Rattle.policy_expressions.specs.declared.kinds.SlotId.TheVariants.{Principal, Resource}
use Rattle.entity_store.specs.declared.request.Request.{Request}
use Rattle.entity_store.specs.Store.{Store}
use Rattle.policy_core.specs.Eval.{eval}
use Rattle.policy_set.specs.Data.{TemplateData, PolicyData, LinkData}
use Rattle.policy_set.specs.Condition.{scope_part, action_part, condition_of, written_of, IsPolicy}
use Rattle.policy_set.specs.PolicySet.{PolicySetData, template_at, is_link, is_static, IsToLink, IsLinkOf, IsLinkedIn}
use Rattle.schema_core.specs.Faults.{IsSchema}
use Rattle.schema_core.specs.Schema.{SchemaData}
use Rattle.policy_scope.specs.Scope.{is_applicable}
use Rattle.typing_spec.specs.Conforms.{RequestConforms, StoreConforms}
use Rattle.link_spec.specs.Accepted.{IsAcceptedTemplate, HasKnownType}
use Rattle.level_validate.specs.Cut.{cut}
use Rattle.level_validate.specs.Policies.{PassesAt, LinkLevelsAreSound, StaticLevelsAreSound}
use Rattle.policy_validate.specs.Accepted.{KeepsLinkRules}
use Rattle.policy_validate.specs.Levels.{AcceptedLevelsAreSound}
use Rattle.policy_validate.proofs.Empty.{all_both}
use Rattle.policy_validate.proofs.AllWritten.{all_found, passed, all_written}
use Rattle.policy_validate.proofs.OwnConditions.{part_slot}
use Rattle.plain_lemmas.proofs.Booleans.{or_false_parts}

module _ (schema : SchemaData) (ok : IsSchema schema) (n : ℕ) (q : Request) (conforms : RequestConforms schema q) (whole : Store) (stored : StoreConforms schema whole) where
  abbrev IsSame : Plain → Type 0
  IsSame x = eval x q (cut n q whole) ≡ eval x q whole

  -- a template that is accepted, and passes
  abbrev Passes : TemplateData → Type 0
  Passes t = IsAcceptedTemplate schema t × PassesAt schema n t

  static_same : StaticLevelsAreSound → (p : PolicyData) → IsPolicy p → HasKeysOnce p.condition → Passes (written_of p) → IsSame p.condition
  static_same sound p policy keys accepted =
      let t = written_of p in
      let plain : has_slot (condition_of t) ≡ false = sym (ap has_slot policy.condition) ∙ policy.no_slot in
      let parts = or_false_parts ((has_slot (scope_part Principal t.principal) || has_slot (action_part t.action)) || has_slot (scope_part Resource t.resource)) (has_slot t.body) plain in
      let scope = or_false_parts (has_slot (scope_part Principal t.principal) || has_slot (action_part t.action)) (has_slot (scope_part Resource t.resource)) parts.0 in
      let principal = or_false_parts (has_slot (scope_part Principal t.principal)) (has_slot (action_part t.action)) scope.0 in
      subst IsSame (sym policy.condition)
      (sound schema ok t parts.1 (subst HasKeysOnce policy.condition keys).1 (sym (part_slot Principal t.principal) ∙ principal.0) (sym (part_slot Resource t.resource) ∙ scope.1) accepted.0 n accepted.1 q conforms whole stored)

  module _ (sound : LinkLevelsAreSound) (p : PolicyData) (policy : IsPolicy p) (keys : HasKeysOnce p.condition) (rules : KeepsLinkRules schema p) where
    link_same : (l : LinkData) → p.link ≡ Some l → (t : TemplateData) → IsToLink t → Passes t → IsLinkOf p l.values t → IsSame p.condition
    link_same l is t able accepted link =
        let known = subst (λ o. IfSome o (λ k. HasKnownType schema k.values.principal × HasKnownType schema k.values.resource)) is rules.slots in
        let body = subst (λ (r : PolicyData). HasKeysOnce r.body) link.1 (subst HasKeysOnce policy.condition keys).1 in
        subst (λ (r : PolicyData). IsSame r.condition) (sym link.1)
        (sound schema ok t able.body body accepted.0 n accepted.1 l.values link.0 record {
          principal = known.0;
          resource = known.1;
          scope = sym (ap (λ r. is_applicable schema (written_of r)) link.1) ∙ rules.scope;
        } q conforms whole stored)

  module _ (s : PolicySetData) (templates : AllByRecursion (λ t. IsToLink t × Passes t) s.templates) where
    policy_same : StaticLevelsAreSound → LinkLevelsAreSound → (p : PolicyData) → IsPolicy p → IsLinkedIn s p → HasKeysOnce p.condition → (is_static p ≡ true → Passes (written_of p)) → (is_link p ≡ true → KeepsLinkRules schema p) → IsSame p.condition
    policy_same static linked p policy link keys accepted rules = by p.link refl link
      where
        of_template : (l : LinkData) → p.link ≡ Some l → (o : Option TemplateData) → template_at s l.template ≡ o → IsSomeAnd o (IsLinkOf p l.values) → IsSame p.condition
        of_template l is None e h = absurd h
        of_template l is (Some t) e h =
            let found = all_found (λ t. IsToLink t × Passes t) (has_key text_cmp (λ t. t.id) l.template) s.templates templates t e in
            link_same linked p policy keys (rules (ap is_some is)) l is t found.0 found.1 h

        by : (o : Option LinkData) → p.link ≡ o → IfSome o (λ l. IsSomeAnd (template_at s l.template) (IsLinkOf p l.values)) → IsSame p.condition
        by None is h = static_same static p policy keys (accepted (ap (λ o. not (is_some o)) is))
        by (Some l) is h = of_template l is (template_at s l.template) refl h

pub levels_sound : StaticLevelsAreSound → LinkLevelsAreSound → AcceptedLevelsAreSound
levels_sound static linked schema ok n s set keys accepted q conforms whole stored =
    let at = all_both (IsAcceptedTemplate schema) (PassesAt schema n) (λ t. IsAcceptedTemplate schema t × PassesAt schema n t) (λ t a b. (a, b)) _ accepted.accepted.as_written accepted.levels in
    let written = all_written (λ t. IsAcceptedTemplate schema t × PassesAt schema n t) s set at in
    let templates = all_both IsToLink (λ t. IsAcceptedTemplate schema t × PassesAt schema n t) (λ t. IsToLink t × (IsAcceptedTemplate schema t × PassesAt schema n t)) (λ t a b. (a, b)) s.templates set.templates written.0 in
    let rules = passed (KeepsLinkRules schema) is_link s.policies accepted.accepted.as_linked in
    all_both (λ p. (IsPolicy p × IsLinkedIn s p) × HasKeysOnce p.condition)
    (λ p. (is_static p ≡ true → IsAcceptedTemplate schema (written_of p) × PassesAt schema n (written_of p)) × (is_link p ≡ true → KeepsLinkRules schema p))
    (λ p. eval p.condition q (cut n q whole) ≡ eval p.condition q whole)
    (λ p a b. policy_same schema ok n q conforms whole stored s templates static linked p a.0.0 a.0.1 a.1 b.0 b.1) s.policies
    (all_both (λ p. IsPolicy p × IsLinkedIn s p) (λ p. HasKeysOnce p.condition) (λ p. (IsPolicy p × IsLinkedIn s p) × HasKeysOnce p.condition) (λ p a b. (a, b)) s.policies
    (all_both IsPolicy (IsLinkedIn s) (λ p. IsPolicy p × IsLinkedIn s p) (λ p a b. (a, b)) s.policies set.policies set.links) keys)
    (all_both (λ p. is_static p ≡ true → IsAcceptedTemplate schema (written_of p) × PassesAt schema n (written_of p)) (λ p. is_link p ≡ true → KeepsLinkRules schema p)
    (λ p. (is_static p ≡ true → IsAcceptedTemplate schema (written_of p) × PassesAt schema n (written_of p)) × (is_link p ≡ true → KeepsLinkRules schema p)) (λ p a b. (a, b)) s.policies written.1 rules)
