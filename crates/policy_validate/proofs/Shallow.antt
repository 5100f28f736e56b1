-- In an accepted set no policy's own condition is deeper than 200.
use Rattle.std.proofs.Common.{◌≡◌, ◌≤◌, true, not, Option, Some, None, is_some, IfSome, IsSomeAnd, refl, sym, ap, subst}
use Rattle.std.specs.List.{AllByRecursion}
use Rattle.policy_values.specs.Keyed.{has_key}
use Rattle.policy_values.specs.Uid.{text_cmp}
use Rattle.policy_expressions.specs.Tree.{depth_of}
use Rattle.policy_set.specs.Data.{TemplateData, PolicyData, LinkData}
use Rattle.policy_set.specs.Condition.{written_of, IsPolicy}
use Rattle.policy_set.specs.PolicySet.{PolicySetData, template_at, is_static, IsToLink, IsLinkOf, IsLinkedIn, IsPolicySet}
use Rattle.schema_core.specs.EnvData.{EnvData}
use Rattle.schema_core.specs.Schema.{SchemaData}
use Rattle.link_spec.specs.Accepted.{IsAcceptedTemplate, IsTyped}
use Rattle.link_spec.specs.Laws.{LinksAreWrittenOut}
use Rattle.policy_validate.specs.Accepted.{IsAccepted}
use Rattle.policy_validate.proofs.AllWritten.{all_found, all_written}
use Rattle.policy_validate.proofs.Empty.{all_both}
use Rattle.policy_validate.proofs.Checks.{IsReady}

abbrev IsShallow : PolicyData → Type 0
IsShallow p = depth_of p.condition ≤ 200

module _ (written_out : LinksAreWrittenOut) (schema : SchemaData) (s : PolicySetData) (templates : AllByRecursion (λ t. IsToLink t × IsAcceptedTemplate schema t) s.templates) where
  link_shallow : (p : PolicyData) (l : LinkData) (t : TemplateData) → IsToLink t → IsAcceptedTemplate schema t → IsLinkOf p l.values t → IsShallow p
  link_shallow p l t able accepted link =
      subst (λ q. IsShallow q) (sym link.1) (subst (λ n. n ≤ 200) (sym (written_out t able.body l.values link.0).depth) accepted.depth)

  policy_shallow : (p : PolicyData) → IsPolicy p → IsLinkedIn s p → (is_static p ≡ true → IsAcceptedTemplate schema (written_of p)) → IsShallow p
  policy_shallow p policy link accepted = by p.link refl link
    where
      of_template : (l : LinkData) (o : Option TemplateData) → template_at s l.template ≡ o → IsSomeAnd o (IsLinkOf p l.values) → IsShallow p
      of_template l None e h = absurd h
      of_template l (Some t) e h =
          let found = all_found (λ t. IsToLink t × IsAcceptedTemplate schema t) (has_key text_cmp (λ t. t.id) l.template) s.templates templates t e in
          link_shallow p l t found.0 found.1 h

      by : (o : Option LinkData) → p.link ≡ o → IfSome o (λ l. IsSomeAnd (template_at s l.template) (IsLinkOf p l.values)) → IsShallow p
      by None is h = subst (λ x. depth_of x ≤ 200) (sym policy.condition) (accepted (ap (λ o. not (is_some o)) is)).depth
      by (Some l) is h = of_template l (template_at s l.template) refl h

accepted_shallow : LinksAreWrittenOut → (schema : SchemaData) (s : PolicySetData) → IsPolicySet s → IsAccepted schema s → AllByRecursion IsShallow s.policies
accepted_shallow written_out schema s set accepted =
    let written = all_written (IsAcceptedTemplate schema) s set accepted.as_written in
    let templates = all_both IsToLink (IsAcceptedTemplate schema) (λ t. IsToLink t × IsAcceptedTemplate schema t) (λ t a b. (a, b)) s.templates set.templates written.0 in
    all_both (λ p. IsPolicy p × IsLinkedIn s p) (λ p. is_static p ≡ true → IsAcceptedTemplate schema (written_of p)) IsShallow
    (λ p a b. policy_shallow written_out schema s templates p a.0 a.1 b) s.policies
    (all_both IsPolicy (IsLinkedIn s) (λ p. IsPolicy p × IsLinkedIn s p) (λ p a b. (a, b)) s.policies set.policies set.links) written.1

-- and each that has a type in the environment is ready
pub accepted_ready : LinksAreWrittenOut → (schema : SchemaData) (s : PolicySetData) → IsPolicySet s → IsAccepted schema s → (env : EnvData) → AllByRecursion (λ p. IsTyped schema p.condition env) s.policies →
    AllByRecursion (IsReady schema env) s.policies
accepted_ready written_out schema s set accepted env typed =
    all_both IsShallow (λ p. IsTyped schema p.condition env) (IsReady schema env) (λ p a b. (a, b)) s.policies (accepted_shallow written_out schema s set accepted) typed
