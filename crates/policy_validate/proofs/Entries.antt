-- Acceptance is by entry, and so are the findings.
use Rattle.std.proofs.Common.{◌≡◌, ℕ, Bool, true, false, List, [], ◌∷◌, ◌++◌, map, flat_map, fold, cond, Some, None, refl, sym, ap, ◌∙◌}
use Rattle.std.specs.Prelude.{filter, not}
use Rattle.std.specs.Cmp.{tied_itself}
use Rattle.std.specs.List.{AllByRecursion}
use Rattle.std.specs.List.Sorted.{IsStrictlySortedBy}
use Rattle.std.specs.Ordering.{is_eq, ordering_reverse}
use Rattle.std.specs.declared.cmp.Ordering.TheVariants.{Less}
use Rattle.std.proofs.lemmas.Cmp.{nat_list_cmp_total}
use Rattle.policy_values.specs.Keyed.{value_at}
use Rattle.plain_lemmas.proofs.Lists.{all_of_map}
use Rattle.policy_values.specs.Uid.{text_cmp}
use Rattle.schema_core.specs.Schema.{SchemaData}
use Rattle.policy_set.specs.Data.{TemplateData, PolicyData}
use Rattle.policy_set.specs.Condition.{static_of, written_of}
use Rattle.policy_set.specs.PolicySet.{PolicySetData, IsPolicySet, is_link, is_static, links, placed, policy_at, statics, template_at, written, with_policy, with_template}
use Rattle.policy_set.specs.Removal.{without, is_another_template, is_another_policy}
use Rattle.policy_set.proofs.Each.{each_with}
use Rattle.link_spec.specs.Accepted.{IsAcceptedTemplate}
use Rattle.policy_validate.specs.Accepted.{IsAccepted, KeepsLinkRules, errors_of_link, errors_of_written, warnings_of}
use Rattle.policy_validate.specs.Entries.{FindingsAreByEntry, IsByEntry, findings_of_either, findings_of_entry, findings_of_link, findings_of_policy, findings_of_written}
use Rattle.policy_validate.proofs.AllWritten.{all_written, passed}
use Rattle.policy_validate.proofs.Empty.{all_both, all_more}

module _ {X : Type 0} (P : X → Type 0) where
  both : (xs ys : List X) → AllByRecursion P xs → AllByRecursion P ys → AllByRecursion P (xs ++ ys)
  both [] ys h k = k
  both (x ∷ xs) ys h k = (h.0, both xs ys h.1 k)

  kept : (f : X → Bool) (xs : List X) → AllByRecursion P xs → AllByRecursion P (filter f xs)
  kept f [] h = tt
  kept f (x ∷ xs) h = by (f x) (kept f xs h.1)
    where
      by : (b : Bool) → AllByRecursion P (filter f xs) → AllByRecursion P (cond b (x ∷ filter f xs) (filter f xs))
      by true k = (h.0, k)
      by false k = k

  -- what holds of each that passes a test holds of those that are left
  left : (f : X → Bool) (xs : List X) → AllByRecursion (λ x. f x ≡ true → P x) xs → AllByRecursion P (filter f xs)
  left f [] h = tt
  left f (x ∷ xs) h = by (f x) refl (left f xs h.1)
    where
      by : (b : Bool) → f x ≡ b → AllByRecursion P (filter f xs) → AllByRecursion P (cond b (x ∷ filter f xs) (filter f xs))
      by true e k = (h.0 e, k)
      by false e k = k

mapped : {X Y : Type 0} (f : X → Y) (P : Y → Type 0) (xs : List X) → AllByRecursion (λ x. P (f x)) xs → AllByRecursion P (map f xs)
mapped f P [] h = tt
mapped f P (x ∷ xs) h = (h.0, mapped f P xs h.1)

-- all that is placed
all_placed : (P : TemplateData → Type 0) (ts us : List TemplateData) → AllByRecursion P ts → AllByRecursion P us → AllByRecursion P (fold placed ts us)
all_placed P ts [] h k = h
all_placed P ts (u ∷ us) h k = all_placed P (placed ts u) us (each_with text_cmp (λ v. v.id) P u k.0 ts h) k.1

module _ (P : TemplateData → Type 0) where
  abbrev IsStaticly : PolicyData → Type 0
  IsStaticly p = is_static p ≡ true → P (written_of p)

  -- what holds of templates and of static policies holds of all that is written
  from_parts : (s : PolicySetData) → AllByRecursion P s.templates → AllByRecursion IsStaticly s.policies → AllByRecursion P (written s)
  from_parts s h k =
      all_placed P [] (s.templates ++ statics s) tt
      (both P s.templates (statics s) h (mapped written_of P (filter is_static s.policies) (left (λ p. P (written_of p)) is_static s.policies k)))

module _ (schema : SchemaData) (s : PolicySetData) (set : IsPolicySet s) (accepted : IsAccepted schema s) where
  parts : AllByRecursion (IsAcceptedTemplate schema) s.templates × AllByRecursion (IsStaticly (IsAcceptedTemplate schema)) s.policies
  parts = all_written (IsAcceptedTemplate schema) s set accepted.as_written

  abbrev IsLinkly : PolicyData → Type 0
  IsLinkly p = is_link p ≡ true → KeepsLinkRules schema p

  linkly : AllByRecursion IsLinkly s.policies
  linkly = passed (KeepsLinkRules schema) is_link s.policies accepted.as_linked

  -- the set with one more policy
  with_one : (p : PolicyData) → IsStaticly (IsAcceptedTemplate schema) p → IsLinkly p → IsAccepted schema (with_policy p s)
  with_one p as_static as_link = record {
    as_written = from_parts (IsAcceptedTemplate schema) (with_policy p s) parts.0 (each_with text_cmp (λ q. q.id) (IsStaticly (IsAcceptedTemplate schema)) p as_static s.policies parts.1);
    as_linked = left (KeepsLinkRules schema) is_link (with_policy p s).policies (each_with text_cmp (λ q. q.id) IsLinkly p as_link s.policies linkly);
  }

  pub by_entry : IsByEntry schema s
  by_entry = record {
    with_static = λ t h. with_one (static_of t) (λ e. h) (λ e. absurd (cc e));
    with_template = λ t h. record {
      as_written = from_parts (IsAcceptedTemplate schema) (with_template t s) (each_with text_cmp (λ u. u.id) (IsAcceptedTemplate schema) t h s.templates parts.0) parts.1;
      as_linked = accepted.as_linked;
    };
    with_link = λ p l h. with_one p (λ e. absurd (not_both p l e)) (λ e. h);
    without = λ id. record {
      as_written = from_parts (IsAcceptedTemplate schema) (without id s) (kept (IsAcceptedTemplate schema) (is_another_template id) s.templates parts.0) (kept (IsStaticly (IsAcceptedTemplate schema)) (is_another_policy id) s.policies parts.1);
      as_linked = left (KeepsLinkRules schema) is_link (without id s).policies (kept IsLinkly (is_another_policy id) s.policies linkly);
    };
  }
    where
      not_both : (p : PolicyData) → is_link p ≡ true → is_static p ≡ true → ⊥
      not_both p l e = let no : not true ≡ true = sym (ap not l) ∙ e in absurd (cc)

-- ---- findings

-- in an ascending list each value is found under its key
module _ {V : Type 0} (key : V → List ℕ) where
  abbrev IsFoundIn : List V → V → Type 0
  IsFoundIn vs v = value_at text_cmp key vs (key v) ≡ Some v

  each_found : (vs : List V) → IsStrictlySortedBy text_cmp (map key vs) → AllByRecursion (IsFoundIn vs) vs
  unfolding IsStrictlySortedBy
  each_found [] h = tt
  each_found (v ∷ vs) h = (
    ap (λ o. cond (is_eq o) (Some v) (value_at text_cmp key vs (key v))) (tied_itself nat_list_cmp_total (key v)),
    all_both (λ w. text_cmp (key v) (key w) ≡ Less) (IsFoundIn vs) (IsFoundIn (v ∷ vs))
        (λ w less found. ap (λ o. cond (is_eq o) (Some v) (value_at text_cmp key vs (key w))) (nat_list_cmp_total.antisymm (key w) (key v) ∙ ap ordering_reverse less) ∙ found)
        vs (all_of_map key (λ k. text_cmp (key v) k ≡ Less) vs h.0) (each_found vs h.1),
  )

flat_same : {X Y : Type 0} (f g : X → List Y) (xs : List X) → AllByRecursion (λ x. f x ≡ g x) xs → flat_map f xs ≡ flat_map g xs
flat_same f g [] h = refl
flat_same f g (x ∷ xs) h = λ i. h.0 i ++ flat_same f g xs h.1 i

module _ (schema : SchemaData) (s : PolicySetData) (set : IsPolicySet s) where
  abbrev IsOwn : TemplateData → Type 0
  IsOwn t = findings_of_entry schema s t.id ≡ findings_of_written schema t

  abbrev IsOwnLink : PolicyData → Type 0
  IsOwnLink p = findings_of_entry schema s p.id ≡ findings_of_link schema p

  of_templates : AllByRecursion IsOwn s.templates
  of_templates = all_more (IsFoundIn (λ t. t.id) s.templates) IsOwn (λ t e. ap (λ o. findings_of_either schema o (policy_at s t.id)) e) s.templates (each_found (λ t. t.id) s.templates set.template_ids)

  abbrev IsOwnPolicy : PolicyData → Type 0
  IsOwnPolicy p = findings_of_entry schema s p.id ≡ findings_of_policy schema p

  of_policies : AllByRecursion IsOwnPolicy s.policies
  of_policies =
      all_both (λ p. template_at s p.id ≡ None) (IsFoundIn (λ p. p.id) s.policies) IsOwnPolicy (λ p e k. (λ i. findings_of_either schema (e i) (k i)))
      s.policies set.apart (each_found (λ p. p.id) s.policies set.policy_ids)

  chosen : (b : Bool) (p : PolicyData) → is_link p ≡ b → findings_of_policy schema p ≡ cond b (findings_of_link schema p) (findings_of_written schema (written_of p))
  chosen b p h = ap (λ c. cond c (findings_of_link schema p) (findings_of_written schema (written_of p))) h

  no_link : (b : Bool) → not b ≡ true → b ≡ false
  no_link false h = refl
  no_link true h = absurd (cc h)

  of_written : AllByRecursion IsOwn (written s)
  of_written = from_parts IsOwn s of_templates (all_more IsOwnPolicy (IsStaticly IsOwn) (λ p e h. e ∙ chosen false p (no_link (is_link p) h)) s.policies of_policies)

  of_links : AllByRecursion IsOwnLink (links s)
  of_links = left IsOwnLink is_link s.policies (all_more IsOwnPolicy (λ p. is_link p ≡ true → IsOwnLink p) (λ p e h. e ∙ chosen true p h) s.policies of_policies)

  pub findings_by_entry : FindingsAreByEntry schema s
  findings_by_entry = record {
    errors = λ i.
        flat_same (errors_of_written schema) (λ t. (findings_of_entry schema s t.id).errors) (written s) (all_more IsOwn (λ t. errors_of_written schema t ≡ (findings_of_entry schema s t.id).errors) (λ t e. sym (ap (λ f. f.errors) e)) (written s) of_written) i
        ++ flat_same (errors_of_link schema) (λ p. (findings_of_entry schema s p.id).errors) (links s) (all_more IsOwnLink (λ p. errors_of_link schema p ≡ (findings_of_entry schema s p.id).errors) (λ p e. sym (ap (λ f. f.errors) e)) (links s) of_links) i;
    warnings = flat_same (warnings_of schema) (λ t. (findings_of_entry schema s t.id).warnings) (written s) (all_more IsOwn (λ t. warnings_of schema t ≡ (findings_of_entry schema s t.id).warnings) (λ t e. sym (ap (λ f. f.warnings) e)) (written s) of_written);
  }
