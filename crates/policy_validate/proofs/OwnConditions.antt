-- In an accepted set each policy's own condition is typed, and sound.
use Rattle.std.proofs.Common.{◌≡◌, ℕ, Bool, true, false, not, ◌||◌, List, Option, Some, None, is_some, IsTrue, IfSome, IsSomeAnd, refl, sym, ap, ◌∙◌, subst}
use Rattle.std.specs.List.{AllByRecursion}
use Rattle.policy_values.specs.Keyed.{has_key}
use Rattle.policy_values.specs.Uid.{text_cmp}
use Rattle.policy_expressions.specs.Keys.{HasKeysOnce}
use Rattle.policy_expressions.specs.Slots.{has_slot}
use Rattle.policy_expressions.specs.declared.kinds.SlotId.{SlotId}
use Rattle.policy_expressions.specs.declared.kinds.SlotId.TheVariants.{Principal, Resource}
use Rattle.policy_set.specs.Data.{TemplateData, PolicyData, LinkData}
use Rattle.policy_set.specs.Condition.{scope_part, action_part, condition_of, asks_slot, written_of, IsPolicy}
use Rattle.policy_set.specs.Links.{HasPlainBody, own_condition}
use Rattle.policy_set.specs.PolicySet.{PolicySetData, template_at, is_link, is_static, links, IsToLink, IsLinkOf, IsLinkedIn, IsPolicySet}
use Rattle.policy_set.specs.declared.constraint.EntityReference.TheVariants.{EUID, Slot}
use Rattle.policy_set.specs.declared.constraint.PrincipalOrResourceConstraint.{PrincipalOrResourceConstraint}
use Rattle.policy_set.specs.declared.constraint.PrincipalOrResourceConstraint.TheVariants.{Any, Eq, In, Is, IsIn}
use Rattle.schema_core.specs.EnvData.{unlinked_envs}
use Rattle.schema_core.specs.Faults.{IsSchema}
use Rattle.schema_core.specs.Schema.{SchemaData}
use Rattle.policy_scope.specs.Scope.{is_applicable}
use Rattle.link_spec.specs.Accepted.{IsTypedIn, IsAcceptedTemplate, HasKnownType}
use Rattle.link_spec.specs.Laws.{LinksAreTyped, StaticsAreTyped, TypedAreSound, IsConditionFor}
use Rattle.policy_validate.specs.Accepted.{KeepsLinkRules, IsAccepted}
use Rattle.policy_validate.specs.Laws.{AcceptedAreTyped, AcceptedAreSound}
use Rattle.policy_validate.proofs.Empty.{all_both}
use Rattle.policy_validate.proofs.AllWritten.{all_found, passed, all_written}
use Rattle.plain_lemmas.proofs.Booleans.{or_false_parts}

-- a part of a scope has a slot exactly where its constraint asks for one
pub part_slot : (i : SlotId) (c : PrincipalOrResourceConstraint) → has_slot (scope_part i c) ≡ asks_slot c
part_slot i Any = refl
part_slot i (Is n) = refl
part_slot i (Eq (EUID u)) = refl
part_slot i (In (EUID u)) = refl
part_slot i (IsIn n (EUID u)) = refl
part_slot i (Eq Slot) = refl
part_slot i (In Slot) = refl
part_slot i (IsIn n Slot) = refl

-- a policy has no slot in its scope
pub without_slots : (p : PolicyData) → IsPolicy p → (asks_slot p.principal ≡ false) × (asks_slot p.resource ≡ false)
without_slots p policy =
    let t = written_of p in
    let plain : has_slot (condition_of t) ≡ false = sym (ap has_slot policy.condition) ∙ policy.no_slot in
    let whole = or_false_parts ((has_slot (scope_part Principal t.principal) || has_slot (action_part t.action)) || has_slot (scope_part Resource t.resource)) (has_slot t.body) plain in
    let scope = or_false_parts (has_slot (scope_part Principal t.principal) || has_slot (action_part t.action)) (has_slot (scope_part Resource t.resource)) whole.0 in
    let principal = or_false_parts (has_slot (scope_part Principal t.principal)) (has_slot (action_part t.action)) scope.0 in
    (sym (part_slot Principal t.principal) ∙ principal.0, sym (part_slot Resource t.resource) ∙ scope.1)

module _ (schema : SchemaData) where
  abbrev IsTypedPolicy : PolicyData → Type 0
  IsTypedPolicy p = IsTypedIn schema p.condition (unlinked_envs schema)

  static_typed : StaticsAreTyped → (p : PolicyData) → IsPolicy p → IsAcceptedTemplate schema (written_of p) → IsTypedPolicy p
  static_typed typed p policy accepted =
      let no = without_slots p policy in
      subst (λ x. IsTypedIn schema x (unlinked_envs schema)) (sym policy.condition) (typed schema (written_of p) no.0 no.1 accepted)

  module _ (linked : LinksAreTyped) (ok : IsSchema schema) (p : PolicyData) (rules : KeepsLinkRules schema p) where
    link_typed : (l : LinkData) → p.link ≡ Some l → (t : TemplateData) → IsToLink t → IsAcceptedTemplate schema t → IsLinkOf p l.values t → IsTypedPolicy p
    link_typed l is t able accepted link =
        let known = subst (λ o. IfSome o (λ k. HasKnownType schema k.values.principal × HasKnownType schema k.values.resource)) is rules.slots in
        subst (λ q. IsTypedPolicy q) (sym link.1)
        (linked schema ok t able.body accepted l.values link.0 record {
          principal = known.0;
          resource = known.1;
          scope = sym (ap (λ q. is_applicable schema (written_of q)) link.1) ∙ rules.scope;
        })

  module _ (s : PolicySetData) (templates : AllByRecursion (λ t. IsToLink t × IsAcceptedTemplate schema t) s.templates) where
    policy_typed : StaticsAreTyped → LinksAreTyped → IsSchema schema → (p : PolicyData) → IsPolicy p → IsLinkedIn s p → (is_static p ≡ true → IsAcceptedTemplate schema (written_of p)) → (is_link p ≡ true → KeepsLinkRules schema p) → IsTypedPolicy p
    policy_typed static linked ok p policy link accepted rules = by p.link refl link
      where
        of_template : (l : LinkData) → p.link ≡ Some l → (o : Option TemplateData) → template_at s l.template ≡ o → IsSomeAnd o (IsLinkOf p l.values) → IsTypedPolicy p
        of_template l is None e h = absurd h
        of_template l is (Some t) e h =
            let found = all_found (λ t. IsToLink t × IsAcceptedTemplate schema t) (has_key text_cmp (λ t. t.id) l.template) s.templates templates t e in
            link_typed linked ok p (rules (ap is_some is)) l is t found.0 found.1 h

        by : (o : Option LinkData) → p.link ≡ o → IfSome o (λ l. IsSomeAnd (template_at s l.template) (IsLinkOf p l.values)) → IsTypedPolicy p
        by None is h = static_typed static p policy (accepted (ap (λ o. not (is_some o)) is))
        by (Some l) is h = of_template l is (template_at s l.template) refl h

pub accepted_typed : StaticsAreTyped → LinksAreTyped → AcceptedAreTyped
accepted_typed static linked schema ok s set accepted =
    let written = all_written (IsAcceptedTemplate schema) s set accepted.as_written in
    let templates = all_both IsToLink (IsAcceptedTemplate schema) (λ t. IsToLink t × IsAcceptedTemplate schema t) (λ t a b. (a, b)) s.templates set.templates written.0 in
    let rules = passed (KeepsLinkRules schema) is_link s.policies accepted.as_linked in
    all_both (λ p. IsPolicy p × IsLinkedIn s p) (λ p. (is_static p ≡ true → IsAcceptedTemplate schema (written_of p)) × (is_link p ≡ true → KeepsLinkRules schema p)) (IsTypedPolicy schema)
    (λ p a b. policy_typed schema s templates static linked ok p a.0 a.1 b.0 b.1) s.policies
    (all_both IsPolicy (IsLinkedIn s) (λ p. IsPolicy p × IsLinkedIn s p) (λ p a b. (a, b)) s.policies set.policies set.links)
    (all_both (λ p. is_static p ≡ true → IsAcceptedTemplate schema (written_of p)) (λ p. is_link p ≡ true → KeepsLinkRules schema p)
    (λ p. (is_static p ≡ true → IsAcceptedTemplate schema (written_of p)) × (is_link p ≡ true → KeepsLinkRules schema p)) (λ p a b. (a, b)) s.policies written.1 rules)

pub accepted_sound : AcceptedAreTyped → TypedAreSound → AcceptedAreSound
accepted_sound typed sound schema ok s set once accepted q conforms e stored =
    all_both (λ p. IsPolicy p × IsTypedPolicy schema p) (λ p. HasKeysOnce p.condition) (λ p. IsConditionFor schema p.condition q e)
    (λ p a keys. sound schema ok p.condition a.0.no_slot keys a.1 q conforms e stored) s.policies
    (all_both IsPolicy (IsTypedPolicy schema) (λ p. IsPolicy p × IsTypedPolicy schema p) (λ p a b. (a, b)) s.policies set.policies (typed schema ok s set accepted)) once
