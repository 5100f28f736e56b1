-- What was just added to a set, and is taken out again.
use Rattle.std.proofs.Common.{◌≡◌, ℕ, Bool, true, false, ◌||◌, cond, List, [], ◌∷◌, Option, Some, None, Result, Ok, Err, OnOk, IfErr, IfSome, refl, sym, ap, ◌∙◌, subst}
use Rattle.std.specs.Prelude.{filter, find, not, is_some, IsSomeAnd}
use Rattle.std.specs.Cmp.{tied_itself}
use Rattle.std.specs.List.{AllByRecursion, list_any}
use Rattle.std.specs.Option.{option_map_or}
use Rattle.std.specs.declared.cmp.Ordering.{Ordering}
use Rattle.std.specs.declared.cmp.Ordering.TheVariants.{Less, Equal, Greater}
use Rattle.std.specs.Ordering.{is_eq, match_ordering}
use Rattle.std.proofs.lemmas.Cmp.{nat_list_cmp_total}
use Rattle.std.proofs.lemmas.Map.Lookups.{exact_bytes}
use Rattle.std.proofs.lemmas.Map.Views.{tells_apart}
use Rattle.policy_values.specs.Keyed.{has_key, value_at, with_value}
use Rattle.plain_lemmas.proofs.Booleans.{or_false_parts}
use Rattle.plain_lemmas.proofs.Options.{none_of_no_some}
use Rattle.policy_values.specs.Uid.{text_cmp}
use Rattle.policy_set.specs.Data.{LinkData, PolicyData, TemplateData}
use Rattle.policy_set.specs.PolicySet.{IsLinkOf, IsLinkedIn, IsPolicySet, PolicySetData, fault_if, id_fault, is_taken, policy_at, template_at, with_policy, with_template}
use Rattle.policy_set.specs.Removal.{IsNotRemoved, is_linked, removal_fault, without, unknown_policy, template_in_use}
use Rattle.policy_set.specs.declared.policy_set.RemovalError.{RemovalError}
use Rattle.policy_set.specs.declared.policy_set.RemovalError.TheVariants.{UnknownPolicy, TemplateInUse}
use Rattle.policy_set.specs.declared.policy_set.PolicySetError.{PolicySetError}
use Rattle.policy_set.specs.declared.policy_set.PolicySetError.TheVariants.{DuplicateId}

itself : (k : List ℕ) → is_eq (text_cmp k k) ≡ true
itself k = ap is_eq (tied_itself nat_list_cmp_total k)

module _ {V : Type 0} (key : V → List ℕ) where
  abbrev has_other : List ℕ → V → Bool
  has_other id v = not (is_eq (text_cmp id (key v)))

  pub all_left : (id : List ℕ) (vs : List V) → value_at text_cmp key vs id ≡ None → filter (has_other id) vs ≡ vs
  all_left id [] h = refl
  all_left id (v ∷ vs) h = by (is_eq (text_cmp id (key v))) h (all_left id vs)
    where
      by : (b : Bool) → cond b (Some v) (find (has_key text_cmp key id) vs) ≡ None → (value_at text_cmp key vs id ≡ None → filter (has_other id) vs ≡ vs) →
          cond (not b) (v ∷ filter (has_other id) vs) (filter (has_other id) vs) ≡ v ∷ vs
      by true k rest = absurd (cc k)
      by false k rest = ap (λ l. v ∷ l) (rest k)

  put_taken : (v : V) (vs : List V) → value_at text_cmp key vs (key v) ≡ None → filter (has_other (key v)) (with_value text_cmp key v vs) ≡ vs
  put_taken v [] h = ap (λ b. cond (not b) (v ∷ []) []) (itself (key v))
  put_taken v (w ∷ ws) h = by (text_cmp (key v) (key w)) refl h (put_taken v ws)
    where
      by : (o : Ordering) → text_cmp (key v) (key w) ≡ o → cond (is_eq o) (Some w) (find (has_key text_cmp key (key v)) ws) ≡ None →
          (value_at text_cmp key ws (key v) ≡ None → filter (has_other (key v)) (with_value text_cmp key v ws) ≡ ws) →
          filter (has_other (key v)) (match_ordering o (v ∷ w ∷ ws) (v ∷ ws) (w ∷ with_value text_cmp key v ws)) ≡ w ∷ ws
      by Less e k rest = ap (λ b. cond (not b) (v ∷ filter (has_other (key v)) (w ∷ ws)) (filter (has_other (key v)) (w ∷ ws))) (itself (key v)) ∙ all_left (key v) (w ∷ ws) h
      by Equal e k rest = absurd (cc k)
      by Greater e k rest = ap (λ o. cond (not (is_eq o)) (w ∷ filter (has_other (key v)) (with_value text_cmp key v ws)) (filter (has_other (key v)) (with_value text_cmp key v ws))) e ∙ ap (λ l. w ∷ l) (rest k)

  pub put_found : (v : V) (vs : List V) → value_at text_cmp key (with_value text_cmp key v vs) (key v) ≡ Some v
  put_found v [] = ap (λ b. cond b (Some v) None) (itself (key v))
  put_found v (w ∷ ws) = by (text_cmp (key v) (key w)) refl (put_found v ws)
    where
      by : (o : Ordering) → text_cmp (key v) (key w) ≡ o → value_at text_cmp key (with_value text_cmp key v ws) (key v) ≡ Some v →
          value_at text_cmp key (match_ordering o (v ∷ w ∷ ws) (v ∷ ws) (w ∷ with_value text_cmp key v ws)) (key v) ≡ Some v
      by Less e rest = ap (λ b. cond b (Some v) (value_at text_cmp key (w ∷ ws) (key v))) (itself (key v))
      by Equal e rest = ap (λ b. cond b (Some v) (value_at text_cmp key ws (key v))) (itself (key v))
      by Greater e rest = ap (λ o. cond (is_eq o) (Some w) (value_at text_cmp key (with_value text_cmp key v ws) (key v))) e ∙ rest

-- an id that is free
pub free_of : (s : PolicySetData) (id : List ℕ) → id_fault s id ≡ None → is_taken s id ≡ false
free_of s id h = by (is_taken s id) (DuplicateId id) h
  where
    by : (b : Bool) (e : PolicySetError) → fault_if b e ≡ None → b ≡ false
    by true e k = absurd (cc k)
    by false e k = refl

module _ (s : PolicySetData) (id : List ℕ) (free : is_taken s id ≡ false) where
  pub no_template : template_at s id ≡ None
  no_template = none_of_no_some (template_at s id) (or_false_parts (is_some (template_at s id)) (is_some (policy_at s id)) free).0

  pub no_policy : policy_at s id ≡ None
  no_policy = none_of_no_some (policy_at s id) (or_false_parts (is_some (template_at s id)) (is_some (policy_at s id)) free).1

pub policy_taken : (s : PolicySetData) (p : PolicyData) → is_taken s p.id ≡ false → without p.id (with_policy p s) ≡ s
policy_taken s p free = λ i. record { templates = all_left (λ t. t.id) p.id s.templates (no_template s p.id free) i; policies = put_taken (λ q. q.id) p s.policies (no_policy s p.id free) i }

pub template_taken : (s : PolicySetData) (t : TemplateData) → is_taken s t.id ≡ false → without t.id (with_template t s) ≡ s
template_taken s t free = λ i. record { templates = put_taken (λ u. u.id) t s.templates (no_template s t.id free) i; policies = all_left (λ q. q.id) t.id s.policies (no_policy s t.id free) i }

-- no link stands on a template that is not there
pub unlinked : (s : PolicySetData) → AllByRecursion (IsLinkedIn s) s.policies → (id : List ℕ) → template_at s id ≡ None → is_linked s id ≡ false
unlinked s links id none = each s.policies links
  where
    one : (p : PolicyData) (o : Option LinkData) → IfSome o (λ l. IsSomeAnd (template_at s l.template) (IsLinkOf p l.values)) → option_map_or (λ l. is_eq (text_cmp id l.template)) o false ≡ false
    one p None h = refl
    one p (Some l) h = by (is_eq (text_cmp id l.template)) refl
      where
        by : (b : Bool) → is_eq (text_cmp id l.template) ≡ b → b ≡ false
        by false e = refl
        by true e = absurd (subst (λ o. IsSomeAnd o (IsLinkOf p l.values)) (ap (template_at s) (sym (tells_apart exact_bytes id l.template e)) ∙ none) h)

    each : (ps : List PolicyData) → AllByRecursion (IsLinkedIn s) ps → list_any (λ p. option_map_or (λ l. is_eq (text_cmp id l.template)) p.link false) ps ≡ false
    each [] h = refl
    each (p ∷ ps) h = (λ i. one p p.link h.0 i || each ps h.1 i)

-- what was just added can be removed
pub no_fault : (s : PolicySetData) (id : List ℕ) → is_taken s id ≡ true → is_linked s id ≡ false → removal_fault s id ≡ None
no_fault s id h k = (λ i. cond (h i) (cond (k i) (Some template_in_use) None) (Some unknown_policy))

pub template_removable : (s : PolicySetData) (t : TemplateData) → is_taken s t.id ≡ false → IsPolicySet s → removal_fault (with_template t s) t.id ≡ None
template_removable s t free set =
    no_fault (with_template t s) t.id
    (ap (λ o. is_some o || is_some (policy_at s t.id)) (put_found (λ u. u.id) t s.templates))
    (unlinked s set.links t.id (no_template s t.id free))

-- a removal that cannot be refused
pub surely_removed : {A : Type 0} (s new : PolicySetData) (id : List ℕ) (r : Result A RemovalError) → OnOk r ((removal_fault s id ≡ None) × (new ≡ without id s)) → IfErr r (IsNotRemoved s id) → removal_fault s id ≡ None → new ≡ without id s
surely_removed s new id (Ok a) h k free = h.1
surely_removed s new id (Err (UnknownPolicy u)) h k free = absurd (cc (sym k.1 ∙ free))
surely_removed s new id (Err (TemplateInUse u)) h k free = absurd (cc (sym k.1 ∙ free))
