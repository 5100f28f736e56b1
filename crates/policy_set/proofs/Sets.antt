-- What a set keeps, it keeps with one more template or policy whose id is new.
use Rattle.std.proofs.Common.{◌≡◌, Bool, true, false, ◌||◌, cond, List, [], ◌∷◌, ℕ, Option, Some, None, IfSome, map, refl, sym, ◌∙◌, ap, subst}
use Rattle.std.specs.Prelude.{is_some, IsSomeAnd}
use Rattle.std.specs.List.{AllByRecursion}
use Rattle.std.specs.List.Sorted.{IsStrictlySortedBy}
use Rattle.std.specs.declared.cmp.Ordering.{Ordering}
use Rattle.std.specs.declared.cmp.Ordering.TheVariants.{Less, Equal, Greater}
use Rattle.std.specs.Ordering.{is_eq, match_ordering}
use Rattle.std.proofs.lemmas.Map.Lookups.{exact_bytes}
use Rattle.std.proofs.lemmas.Map.Views.{tells_apart}
use Rattle.std.specs.Map.{values_of}
use Rattle.std.specs.BTreeMap.{BTreeMap, IsOrdered, values, insert_entry}
use Rattle.policy_values.specs.Keyed.{AreAtTheirKeys, value_at, with_value}
use Rattle.policy_values.proofs.Keyed.{keys_ascend, value_named, value_put, own_put}
use Rattle.policy_values.specs.Uid.{text_cmp}
use Rattle.policy_set.specs.Data.{TemplateData, LinkData, PolicyData}
use Rattle.policy_expressions.specs.declared.kinds.SlotValues.{SlotValues}
use Rattle.policy_set.specs.Condition.{IsPolicy}
use Rattle.policy_set.specs.Links.{Fills, linked_policy}
use Rattle.policy_set.specs.PolicySet.{PolicySetData, template_at, policy_at, is_taken, with_template, with_policy, IsToLink, IsLinkOf, IsLinkedIn, IsPolicySet, HoldsSet}
use Rattle.policy_set.proofs.Each.{each_with}
use Rattle.plain_lemmas.proofs.Options.{none_of_no_some}
use Rattle.plain_lemmas.proofs.Lists.{all_weaker}

module _ {V : Type 0} (key : V → List ℕ) where
  -- a look-up for another key is what it was
  other_at : (v : V) (vs : List V) (q : List ℕ) → is_eq (text_cmp q (key v)) ≡ false → value_at text_cmp key (with_value text_cmp key v vs) q ≡ value_at text_cmp key vs q
  other_at v [] q h = ap (λ b. cond b (Some v) None) h
  other_at v (w ∷ ws) q h = by (text_cmp (key v) (key w)) refl (other_at v ws q h) where
    by : (o : Ordering) → text_cmp (key v) (key w) ≡ o → value_at text_cmp key (with_value text_cmp key v ws) q ≡ value_at text_cmp key ws q → value_at text_cmp key (match_ordering o (v ∷ w ∷ ws) (v ∷ ws) (w ∷ with_value text_cmp key v ws)) q ≡ value_at text_cmp key (w ∷ ws) q
    by Less e later = ap (λ b. cond b (Some v) (value_at text_cmp key (w ∷ ws) q)) h
    by Equal e later =
        ap (λ b. cond b (Some v) (value_at text_cmp key ws q)) h
        ∙ ap (λ b. cond b (Some w) (value_at text_cmp key ws q)) (sym (ap (λ k. is_eq (text_cmp q k)) (sym (exact_bytes (key v) (key w) e)) ∙ h))
    by Greater e later = ap (λ o. cond (is_eq (text_cmp q (key w))) (Some w) o) later

  -- where a look-up finds nothing, each value has another key
  others : (vs : List V) (q : List ℕ) → value_at text_cmp key vs q ≡ None → AllByRecursion (λ v. is_eq (text_cmp q (key v)) ≡ false) vs
  others [] q h = tt
  others (v ∷ vs) q h = by (is_eq (text_cmp q (key v))) refl (others vs q) h where
    by : (b : Bool) → is_eq (text_cmp q (key v)) ≡ b → (value_at text_cmp key vs q ≡ None → AllByRecursion (λ v. is_eq (text_cmp q (key v)) ≡ false) vs) → cond b (Some v) (value_at text_cmp key vs q) ≡ None → (is_eq (text_cmp q (key v)) ≡ false) × AllByRecursion (λ v. is_eq (text_cmp q (key v)) ≡ false) vs
    by true e later k = cc
    by false e later k = (e, later k)

turned : (m n : List ℕ) → is_eq (text_cmp m n) ≡ false → is_eq (text_cmp n m) ≡ false
turned m n h = by (is_eq (text_cmp n m)) refl where
  by : (b : Bool) → is_eq (text_cmp n m) ≡ b → b ≡ false
  by true e = let same = tells_apart exact_bytes n m e in sym e ∙ ap (λ k. is_eq (text_cmp k m)) same ∙ ap (λ k. is_eq (text_cmp m k)) (sym same) ∙ h
  by false e = refl

neither : (a b : Bool) → a || b ≡ false → (a ≡ false) × (b ≡ false)
neither true b h = cc
neither false b h = (refl, h)

pub no_template : (s : PolicySetData) (id : List ℕ) → is_taken s id ≡ false → template_at s id ≡ None
no_template s id h = none_of_no_some (template_at s id) (neither (is_some (template_at s id)) (is_some (policy_at s id)) h).0

pub no_policy : (s : PolicySetData) (id : List ℕ) → is_taken s id ≡ false → policy_at s id ≡ None
no_policy s id h = none_of_no_some (policy_at s id) (neither (is_some (template_at s id)) (is_some (policy_at s id)) h).1

-- the template of a link stands after another was added
module _ (s : PolicySetData) (t : TemplateData) (new : template_at s t.id ≡ None) where
  still_at : (id : List ℕ) (P : TemplateData → Type 0) → IsSomeAnd (template_at s id) P → IsSomeAnd (template_at (with_template t s) id) P
  still_at id P h = by (is_eq (text_cmp id t.id)) refl where
    by : (b : Bool) → is_eq (text_cmp id t.id) ≡ b → IsSomeAnd (template_at (with_template t s) id) P
    by true e = absurd (subst (λ o. IsSomeAnd o P) (ap (template_at s) (tells_apart exact_bytes id t.id e) ∙ new) h)
    by false e = subst (λ o. IsSomeAnd o P) (sym (other_at (λ u. u.id) t s.templates id e)) h

  still_linked : (p : PolicyData) → IsLinkedIn s p → IsLinkedIn (with_template t s) p
  still_linked p h = by p.link h where
    by : (o : Option LinkData) → IfSome o (λ l. IsSomeAnd (template_at s l.template) (IsLinkOf p l.values)) → IfSome o (λ l. IsSomeAnd (template_at (with_template t s) l.template) (IsLinkOf p l.values))
    by None k = tt
    by (Some l) k = still_at l.template (IsLinkOf p l.values) k

pub template_added : (s : PolicySetData) → IsPolicySet s → (t : TemplateData) → is_taken s t.id ≡ false → IsToLink t → IsStrictlySortedBy text_cmp (map (λ u. u.id) (with_template t s).templates) → IsPolicySet (with_template t s)
template_added s set t free ok sorted = record {
  template_ids = sorted;
  policy_ids = set.policy_ids;
  apart = both s.policies set.apart (others (λ p. p.id) s.policies t.id (no_policy s t.id free));
  templates = each_with text_cmp (λ u. u.id) IsToLink t ok s.templates set.templates;
  policies = set.policies;
  links = all_weaker (still_linked s t (no_template s t.id free)) s.policies set.links;
}
  where
    both : (ps : List PolicyData) → AllByRecursion (λ p. template_at s p.id ≡ None) ps → AllByRecursion (λ p. is_eq (text_cmp t.id p.id) ≡ false) ps → AllByRecursion (λ p. template_at (with_template t s) p.id ≡ None) ps
    both [] h k = tt
    both (p ∷ ps) h k = (other_at (λ u. u.id) t s.templates p.id (turned t.id p.id k.0) ∙ h.0, both ps h.1 k.1)

pub policy_added : (s : PolicySetData) → IsPolicySet s → (p : PolicyData) → is_taken s p.id ≡ false → IsPolicy p → IsLinkedIn s p → IsStrictlySortedBy text_cmp (map (λ q. q.id) (with_policy p s).policies) → IsPolicySet (with_policy p s)
policy_added s set p free ok linked sorted = record {
  template_ids = set.template_ids;
  policy_ids = sorted;
  apart = each_with text_cmp (λ q. q.id) (λ q. template_at s q.id ≡ None) p (no_template s p.id free) s.policies set.apart;
  templates = set.templates;
  policies = each_with text_cmp (λ q. q.id) IsPolicy p ok s.policies set.policies;
  links = each_with text_cmp (λ q. q.id) (IsLinkedIn s) p linked s.policies set.links;
}

-- the link of a template that is found is a link in the set
pub linked_in : (s : PolicySetData) (q : List ℕ) (t : TemplateData) → template_at s q ≡ Some t → (w : SlotValues) → Fills w t → (id : List ℕ) → IsLinkedIn s (linked_policy id w t)
linked_in s q t found w fills id =
    let named : t.id ≡ q = subst (λ o. IfSome o (λ u. u.id ≡ q)) found (value_named text_cmp (λ u. u.id) exact_bytes s.templates q) in
    subst (λ o. IsSomeAnd o (IsLinkOf (linked_policy id w t) w)) (sym (ap (template_at s) named ∙ found)) (fills, refl)

-- the same of the maps that hold a set
module _ {V : Type 0} (key : V → List ℕ) (m n : BTreeMap (List ℕ) V) (keys : AreAtTheirKeys text_cmp key m) (v : V) (put : n.entries ≡ insert_entry text_cmp m.entries (key v) v) where
  pub put_values : values n ≡ with_value text_cmp key v (values m)
  put_values = ap values_of put ∙ value_put text_cmp key m keys v

  pub put_keys : IsOrdered text_cmp n → AreAtTheirKeys text_cmp key n
  put_keys ordered = record { ordered = ordered; own = subst (AllByRecursion (λ p. key p.1 ≡ p.0)) (sym put) (own_put text_cmp key exact_bytes v m.entries keys.own) }

  put_ascend : IsOrdered text_cmp n → IsStrictlySortedBy text_cmp (map key (with_value text_cmp key v (values m)))
  put_ascend ordered = subst (λ vs. IsStrictlySortedBy text_cmp (map key vs)) put_values (keys_ascend text_cmp key n (put_keys ordered))

abbrev pub set_of : BTreeMap (List ℕ) TemplateData → BTreeMap (List ℕ) PolicyData → PolicySetData
set_of ts ps = record { templates = values ts; policies = values ps }

pub template_put : (ts us : BTreeMap (List ℕ) TemplateData) (ps : BTreeMap (List ℕ) PolicyData) → HoldsSet ts ps → (t : TemplateData) → is_taken (set_of ts ps) t.id ≡ false → IsToLink t →
    IsOrdered text_cmp us → us.entries ≡ insert_entry text_cmp ts.entries t.id t → HoldsSet us ps
template_put ts us ps holds t free ok ordered put = record {
  template_ids = put_keys (λ u. u.id) ts us holds.template_ids t put ordered;
  policy_ids = holds.policy_ids;
  whole =
      subst (λ vs. IsPolicySet (record { templates = vs; policies = values ps })) (sym (put_values (λ u. u.id) ts us holds.template_ids t put))
      (template_added (set_of ts ps) holds.whole t free ok (put_ascend (λ u. u.id) ts us holds.template_ids t put ordered));
}

pub policy_put : (ts : BTreeMap (List ℕ) TemplateData) (ps qs : BTreeMap (List ℕ) PolicyData) → HoldsSet ts ps → (p : PolicyData) → is_taken (set_of ts ps) p.id ≡ false → IsPolicy p → IsLinkedIn (set_of ts ps) p →
    IsOrdered text_cmp qs → qs.entries ≡ insert_entry text_cmp ps.entries p.id p → HoldsSet ts qs
policy_put ts ps qs holds p free ok linked ordered put = record {
  template_ids = holds.template_ids;
  policy_ids = put_keys (λ q. q.id) ps qs holds.policy_ids p put ordered;
  whole =
      subst (λ vs. IsPolicySet (record { templates = values ts; policies = vs })) (sym (put_values (λ q. q.id) ps qs holds.policy_ids p put))
      (policy_added (set_of ts ps) holds.whole p free ok linked (put_ascend (λ q. q.id) ps qs holds.policy_ids p put ordered));
}
