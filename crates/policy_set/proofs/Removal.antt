-- What stands after a removal is a set.
use Rattle.std.proofs.Common.{◌≡◌, ℕ, Bool, true, false, ◌||◌, cond, List, [], ◌∷◌, map, Option, Some, None, IfSome, refl, sym, ap, ◌∙◌, subst}
use Rattle.std.specs.Prelude.{filter, not, find, IsSomeAnd, if◌then◌else◌}
use Rattle.std.specs.List.{AllByRecursion, list_any}
use Rattle.std.specs.Option.{option_map_or}
use Rattle.std.specs.List.Sorted.{IsStrictlySortedBy}
use Rattle.std.specs.Ordering.{is_eq}
use Rattle.std.specs.declared.cmp.Ordering.TheVariants.{Less}
use Rattle.std.proofs.lemmas.Map.Lookups.{exact_bytes}
use Rattle.std.proofs.lemmas.Map.Views.{tells_apart}
use Rattle.policy_values.specs.Uid.{text_cmp}
use Rattle.policy_set.specs.Data.{TemplateData, PolicyData, LinkData}
use Rattle.policy_set.specs.Condition.{IsPolicy}
use Rattle.policy_set.specs.PolicySet.{PolicySetData, template_at, is_taken, IsPolicySet, IsToLink, IsLinkOf, IsLinkedIn, HoldsSet}
use Rattle.std.specs.Map.{keys_of, values_of, remove_entry}
use Rattle.std.specs.BTreeMap.{BTreeMap, IsOrdered, is_at, values}
use Rattle.policy_values.specs.Keyed.{AreAtTheirKeys}
use Rattle.policy_set.proofs.Sets.{set_of}
use Rattle.policy_set.specs.Removal.{without, is_linked, removal_fault, is_another_template, is_another_policy, unknown_policy, template_in_use}

module _ {X : Type 0} (f : X → Bool) where
  kept : (P : X → Type 0) (xs : List X) → AllByRecursion P xs → AllByRecursion P (filter f xs)
  kept P [] h = tt
  kept P (x ∷ xs) h = by (f x) (kept P xs h.1)
    where
      by : (b : Bool) → AllByRecursion P (filter f xs) → AllByRecursion P (cond b (x ∷ filter f xs) (filter f xs))
      by true k = (h.0, k)
      by false k = k

  -- what is not there is not among what is left
  none_left : (g : X → Bool) (xs : List X) → find g xs ≡ None → find g (filter f xs) ≡ None
  none_left g [] h = refl
  none_left g (x ∷ xs) h = by (f x) (g x) refl h (none_left g xs)
    where
      by : (b c : Bool) → g x ≡ c → cond c (Some x) (find g xs) ≡ None → (find g xs ≡ None → find g (filter f xs) ≡ None) → find g (cond b (x ∷ filter f xs) (filter f xs)) ≡ None
      by b true e k rest = absurd (cc k)
      by true false e k rest = ap (λ c. cond c (Some x) (find g (filter f xs))) e ∙ rest k
      by false false e k rest = rest k

  -- what is found and left is found among what is left
  same_left : (g : X → Bool) → ((x : X) → g x ≡ true → f x ≡ true) → (xs : List X) → find g (filter f xs) ≡ find g xs
  same_left g pass [] = refl
  same_left g pass (x ∷ xs) = by (f x) refl (g x) refl (same_left g pass xs)
    where
      by : (b : Bool) → f x ≡ b → (c : Bool) → g x ≡ c → find g (filter f xs) ≡ find g xs → find g (cond b (x ∷ filter f xs) (filter f xs)) ≡ cond c (Some x) (find g xs)
      by true i c e rest = ap (λ d. cond d (Some x) (find g (filter f xs))) e ∙ ap (λ o. cond c (Some x) o) rest
      by false i true e rest = absurd (no_both (pass x e) i)
        where
          no_both : {b : Bool} → b ≡ true → b ≡ false → ⊥
          no_both k l = absurd (cc (k, l))
      by false i false e rest = rest

  sorted_left : (key : X → List ℕ) (xs : List X) → IsStrictlySortedBy text_cmp (map key xs) → IsStrictlySortedBy text_cmp (map key (filter f xs))
  unfolding IsStrictlySortedBy
  sorted_left key [] h = h
  sorted_left key (x ∷ xs) h = by (f x) (sorted_left key xs h.1)
    where
      later : (ys : List X) → AllByRecursion (λ k. text_cmp (key x) k ≡ Less) (map key ys) → AllByRecursion (λ k. text_cmp (key x) k ≡ Less) (map key (filter f ys))
      later [] k = tt
      later (y ∷ ys) k = put (f y) (later ys k.1)
        where
          put : (b : Bool) → AllByRecursion (λ k. text_cmp (key x) k ≡ Less) (map key (filter f ys)) → AllByRecursion (λ k. text_cmp (key x) k ≡ Less) (map key (cond b (y ∷ filter f ys) (filter f ys)))
          put true r = (k.0, r)
          put false r = r

      by : (b : Bool) → IsStrictlySortedBy text_cmp (map key (filter f xs)) → IsStrictlySortedBy text_cmp (map key (cond b (x ∷ filter f xs) (filter f xs)))
      by true k = (later xs h.0, k)
      by false k = k

-- none of these passes the test
none_of : {X : Type 0} (g : X → Bool) (xs : List X) → list_any g xs ≡ false → AllByRecursion (λ x. g x ≡ false) xs
none_of g [] h = tt
none_of g (x ∷ xs) h = by (g x) refl h (none_of g xs)
  where
    by : (b : Bool) → g x ≡ b → (b || list_any g xs) ≡ false → (list_any g xs ≡ false → AllByRecursion (λ x. g x ≡ false) xs) → (g x ≡ false) × AllByRecursion (λ x. g x ≡ false) xs
    by true e k rest = absurd (cc k)
    by false e k rest = (e, rest k)

both_so : {X : Type 0} (P Q R : X → Type 0) → ((x : X) → P x → Q x → R x) → (xs : List X) → AllByRecursion P xs → AllByRecursion Q xs → AllByRecursion R xs
both_so P Q R f [] h k = tt
both_so P Q R f (x ∷ xs) h k = (f x h.0 k.0, both_so P Q R f xs h.1 k.1)

module _ (s : PolicySetData) (id : List ℕ) where
  other_passes : (q : List ℕ) → is_eq (text_cmp id q) ≡ false → (t : TemplateData) → is_eq (text_cmp q t.id) ≡ true → is_another_template id t ≡ true
  other_passes q other t e = ap not (ap (λ k. is_eq (text_cmp id k)) (sym (tells_apart exact_bytes q t.id e)) ∙ other)

  still_linked : (p : PolicyData) → IsLinkedIn s p → option_map_or (λ l. is_eq (text_cmp id l.template)) p.link false ≡ false → IsLinkedIn (without id s) p
  still_linked p h e = by p.link h e
    where
      by : (o : Option LinkData) → IfSome o (λ l. IsSomeAnd (template_at s l.template) (IsLinkOf p l.values)) → option_map_or (λ l. is_eq (text_cmp id l.template)) o false ≡ false → IfSome o (λ l. IsSomeAnd (template_at (without id s) l.template) (IsLinkOf p l.values))
      by None k e = tt
      by (Some l) k e = subst (λ o. IsSomeAnd o (IsLinkOf p l.values)) (sym (same_left (is_another_template id) (λ t. is_eq (text_cmp l.template t.id)) (other_passes l.template e) s.templates)) k

not_linked : (taken linked : Bool) → (if taken then (if linked then Some template_in_use else None) else Some unknown_policy) ≡ None → linked ≡ false
not_linked true false h = refl
not_linked true true h = absurd (cc h)
not_linked false linked h = absurd (cc h)

pub removal : (s : PolicySetData) → IsPolicySet s → (id : List ℕ) → removal_fault s id ≡ None → IsPolicySet (without id s)
removal s set id h = record {
  template_ids = sorted_left (is_another_template id) (λ t. t.id) s.templates set.template_ids;
  policy_ids = sorted_left (is_another_policy id) (λ p. p.id) s.policies set.policy_ids;
  apart = kept (is_another_policy id) (λ p. template_at (without id s) p.id ≡ None) s.policies (all_so (λ p. template_at s p.id ≡ None) (λ p. template_at (without id s) p.id ≡ None) (λ p none. none_left (is_another_template id) (λ t. is_eq (text_cmp p.id t.id)) s.templates none) s.policies set.apart);
  templates = kept (is_another_template id) IsToLink s.templates set.templates;
  policies = kept (is_another_policy id) IsPolicy s.policies set.policies;
  links = kept (is_another_policy id) (IsLinkedIn (without id s)) s.policies
      (both_so (IsLinkedIn s) (λ p. option_map_or (λ l. is_eq (text_cmp id l.template)) p.link false ≡ false) (IsLinkedIn (without id s)) (still_linked s id) s.policies set.links
      (none_of (λ p. option_map_or (λ l. is_eq (text_cmp id l.template)) p.link false) s.policies (not_linked (is_taken s id) (is_linked s id) h)));
}
  where
    all_so : {X : Type 0} (P Q : X → Type 0) → ((x : X) → P x → Q x) → (xs : List X) → AllByRecursion P xs → AllByRecursion Q xs
    all_so P Q f [] h = tt
    all_so P Q f (x ∷ xs) h = (f x h.0, all_so P Q f xs h.1)

-- ---- the maps that hold a set

module _ {V : Type 0} (key : V → List ℕ) (id : List ℕ) where
  abbrev has_other : V → Bool
  has_other v = not (is_eq (text_cmp id (key v)))

  none_dropped : (vs : List V) → AllByRecursion (λ v. text_cmp id (key v) ≡ Less) vs → filter has_other vs ≡ vs
  none_dropped [] h = refl
  none_dropped (v ∷ vs) h = ap (λ o. cond (not (is_eq o)) (v ∷ filter has_other vs) (filter has_other vs)) h.0 ∙ ap (λ l. v ∷ l) (none_dropped vs h.1)

  later : (k : List ℕ) (ps : List (List ℕ × V)) → k ≡ id → AllByRecursion (λ p. key p.1 ≡ p.0) ps → AllByRecursion (λ m. text_cmp k m ≡ Less) (keys_of ps) → AllByRecursion (λ v. text_cmp id (key v) ≡ Less) (values_of ps)
  later k [] same own h = tt
  later k (p ∷ ps) same own h = (ap (λ m. text_cmp m (key p.1)) (sym same) ∙ ap (text_cmp k) own.0 ∙ h.0, later k ps same own.1 h.1)

  values_left : (ps : List (List ℕ × V)) → AllByRecursion (λ p. key p.1 ≡ p.0) ps → IsStrictlySortedBy text_cmp (keys_of ps) → values_of (remove_entry (is_at (text_cmp id)) ps) ≡ filter has_other (values_of ps)
  unfolding IsStrictlySortedBy
  values_left [] own sorted = refl
  values_left (p ∷ ps) own sorted = by (is_eq (text_cmp id p.0)) refl (values_left ps own.1 sorted.1)
    where
      by : (b : Bool) → is_eq (text_cmp id p.0) ≡ b → values_of (remove_entry (is_at (text_cmp id)) ps) ≡ filter has_other (values_of ps) →
          values_of (cond b ps (p ∷ remove_entry (is_at (text_cmp id)) ps)) ≡ cond (not (is_eq (text_cmp id (key p.1)))) (p.1 ∷ filter has_other (values_of ps)) (filter has_other (values_of ps))
      by true e rest =
          sym (none_dropped (values_of ps) (later p.0 ps (sym (tells_apart exact_bytes id p.0 e)) own.1 sorted.0))
          ∙ ap (λ b. cond (not b) (p.1 ∷ filter has_other (values_of ps)) (filter has_other (values_of ps))) (sym (ap (λ k. is_eq (text_cmp id k)) own.0 ∙ e))
      by false e rest =
          ap (λ l. p.1 ∷ l) rest
          ∙ ap (λ b. cond (not b) (p.1 ∷ filter has_other (values_of ps)) (filter has_other (values_of ps))) (sym (ap (λ k. is_eq (text_cmp id k)) own.0 ∙ e))

  own_left : (ps : List (List ℕ × V)) → AllByRecursion (λ p. key p.1 ≡ p.0) ps → AllByRecursion (λ p. key p.1 ≡ p.0) (remove_entry (is_at (text_cmp id)) ps)
  own_left [] own = tt
  own_left (p ∷ ps) own = by (is_eq (text_cmp id p.0)) (own_left ps own.1)
    where
      by : (b : Bool) → AllByRecursion (λ q. key q.1 ≡ q.0) (remove_entry (is_at (text_cmp id)) ps) → AllByRecursion (λ q. key q.1 ≡ q.0) (cond b ps (p ∷ remove_entry (is_at (text_cmp id)) ps))
      by true rest = own.1
      by false rest = (own.0, rest)

  module _ (m n : BTreeMap (List ℕ) V) (keys : AreAtTheirKeys text_cmp key m) (taken : n.entries ≡ remove_entry (is_at (text_cmp id)) m.entries) where
    pub left_values : values n ≡ filter has_other (values m)
    left_values = ap values_of taken ∙ values_left m.entries keys.own keys.ordered

    pub left_keys : IsOrdered text_cmp n → AreAtTheirKeys text_cmp key n
    left_keys ordered = record { ordered = ordered; own = subst (AllByRecursion (λ p. key p.1 ≡ p.0)) (sym taken) (own_left m.entries keys.own) }

module _ (ts us : BTreeMap (List ℕ) TemplateData) (ps qs : BTreeMap (List ℕ) PolicyData) (id : List ℕ) (holds : HoldsSet ts ps)
    (templates : us.entries ≡ remove_entry (is_at (text_cmp id)) ts.entries) (policies : qs.entries ≡ remove_entry (is_at (text_cmp id)) ps.entries) where
  pub set_left : (record { templates = values us; policies = values qs }) ≡ without id (set_of ts ps)
  set_left = λ i. record { templates = left_values (λ t. t.id) id ts us holds.template_ids templates i; policies = left_values (λ p. p.id) id ps qs holds.policy_ids policies i }

  pub holds_left : removal_fault (set_of ts ps) id ≡ None → IsOrdered text_cmp us → IsOrdered text_cmp qs → HoldsSet us qs
  holds_left free first second = record {
    template_ids = left_keys (λ t. t.id) id ts us holds.template_ids templates first;
    policy_ids = left_keys (λ p. p.id) id ps qs holds.policy_ids policies second;
    whole = subst IsPolicySet (sym set_left) (removal (set_of ts ps) holds.whole id free);
  }
