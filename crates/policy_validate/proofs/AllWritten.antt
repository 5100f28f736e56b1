-- What holds of all that is written in a set holds of its templates and of its static policies.
use Rattle.std.proofs.Common.{◌≡◌, ℕ, Bool, true, false, cond, List, [], ◌∷◌, ◌++◌, map, fold, Option, Some, None, refl, sym, ap, ◌∙◌, subst}
use Rattle.std.specs.List.{AllByRecursion, filter, find}
use Rattle.std.specs.List.Sorted.{IsStrictlySortedBy}
use Rattle.std.specs.Cmp.{IsTotalOrder}
use Rattle.std.specs.declared.cmp.Ordering.{Ordering}
use Rattle.std.specs.declared.cmp.Ordering.TheVariants.{Less, Equal, Greater}
use Rattle.std.specs.Ordering.{is_eq, match_ordering, ordering_reverse}
use Rattle.std.proofs.lemmas.Cmp.{nat_list_cmp_total}
use Rattle.policy_values.specs.Keyed.{has_key, with_value}
use Rattle.policy_values.specs.Uid.{text_cmp}
use Rattle.policy_set.specs.Data.{TemplateData, PolicyData}
use Rattle.policy_set.specs.Condition.{written_of}
use Rattle.policy_set.specs.PolicySet.{PolicySetData, template_at, is_static, statics, written, IsPolicySet}
use Rattle.policy_validate.proofs.Empty.{all_more}
use Rattle.plain_lemmas.proofs.Lists.{all_map, all_of_map}

module _ {X : Type 0} where
  all_split : (P : X → Type 0) (xs ys : List X) → AllByRecursion P (xs ++ ys) → AllByRecursion P xs × AllByRecursion P ys
  all_split P [] ys h = (tt, h)
  all_split P (x ∷ xs) ys h = let r = all_split P xs ys h.1 in ((h.0, r.0), r.1)

  all_joined : (P : X → Type 0) (xs ys : List X) → AllByRecursion P xs → AllByRecursion P ys → AllByRecursion P (xs ++ ys)
  all_joined P [] ys h k = k
  all_joined P (x ∷ xs) ys h k = (h.0, all_joined P xs ys h.1 k)

  -- the elements that pass a test
  module _ (P : X → Type 0) (f : X → Bool) where
    kept : (xs : List X) → AllByRecursion P xs → AllByRecursion P (filter f xs)
    kept [] h = tt
    kept (x ∷ xs) h = by (f x) (kept xs h.1)
      where
        by : (b : Bool) → AllByRecursion P (filter f xs) → AllByRecursion P (cond b (x ∷ filter f xs) (filter f xs))
        by true k = (h.0, k)
        by false k = k

    pub passed : (xs : List X) → AllByRecursion P (filter f xs) → AllByRecursion (λ x. f x ≡ true → P x) xs
    passed [] h = tt
    passed (x ∷ xs) h = by (f x) refl (passed xs) h
      where
        by : (b : Bool) → f x ≡ b → (AllByRecursion P (filter f xs) → AllByRecursion (λ y. f y ≡ true → P y) xs) → AllByRecursion P (cond b (x ∷ filter f xs) (filter f xs)) → (f x ≡ true → P x) × AllByRecursion (λ y. f y ≡ true → P y) xs
        by true e rest k = (λ t. k.0, rest k.1)
        by false e rest k = (λ t. absurd (cc (e, t)), rest k)

  pub all_found : (P : X → Type 0) (f : X → Bool) (xs : List X) → AllByRecursion P xs → (x : X) → find f xs ≡ Some x → P x
  all_found P f [] h x e = absurd (cc e)
  all_found P f (y ∷ ys) h x e = by (f y) (all_found P f ys h.1 x) e
    where
      by : (b : Bool) → (find f ys ≡ Some x → P x) → cond b (Some y) (find f ys) ≡ Some x → P x
      by true rest k = subst P (cc k) h.0
      by false rest k = rest k

-- values of which no two have one key
module _ {V : Type 0} (key : V → List ℕ) where
  abbrev IsOther : V → V → Type 0
  IsOther v w = is_eq (text_cmp (key v) (key w)) ≡ false

  abbrev AreOthers : List V → Type 0
  AreOthers [] = Unit {0}
  AreOthers (v ∷ vs) = AllByRecursion (λ w. IsOther w v) vs × AreOthers vs

  abbrev put : List V → V → List V
  put ws v = with_value text_cmp key v ws

  put_others : (P : V → Type 0) (v : V) (ws : List V) → AllByRecursion (IsOther v) ws → AllByRecursion P (put ws v) → P v × AllByRecursion P ws
  put_others P v [] other h = (h.0, tt)
  put_others P v (w ∷ ws) other h = by (text_cmp (key v) (key w)) other.0 (put_others P v ws other.1) h
    where
      by : (o : Ordering) → is_eq o ≡ false → (AllByRecursion P (put ws v) → P v × AllByRecursion P ws) → AllByRecursion P (match_ordering o (v ∷ w ∷ ws) (v ∷ ws) (w ∷ put ws v)) → P v × (P w × AllByRecursion P ws)
      by Less e rest k = k
      by Equal e rest k = absurd (cc e)
      by Greater e rest k = let r = rest k.1 in (r.0, (k.0, r.1))

  all_put : (P : V → Type 0) (v : V) (ws : List V) → P v → AllByRecursion P ws → AllByRecursion P (put ws v)
  all_put P v [] h k = (h, tt)
  all_put P v (w ∷ ws) h k = by (text_cmp (key v) (key w)) (all_put P v ws h k.1)
    where
      by : (o : Ordering) → AllByRecursion P (put ws v) → AllByRecursion P (match_ordering o (v ∷ w ∷ ws) (v ∷ ws) (w ∷ put ws v))
      by Less rest = (h, k)
      by Equal rest = (h, k.1)
      by Greater rest = (k.0, rest)

  -- what holds of all that were put holds of each
  each_put : (P : V → Type 0) (ws vs : List V) → AllByRecursion (λ v. AllByRecursion (IsOther v) ws) vs → AreOthers vs → AllByRecursion P (fold put ws vs) → AllByRecursion P ws × AllByRecursion P vs
  each_put P ws [] apart others h = (h, tt)
  each_put P ws (v ∷ vs) apart others h =
      let more = both vs apart.1 others.0 in
      let r = each_put P (put ws v) vs more others.1 h in
      let s = put_others P v ws apart.0 r.0 in
      (s.1, (s.0, r.1))
    where
      both : (us : List V) → AllByRecursion (λ u. AllByRecursion (IsOther u) ws) us → AllByRecursion (λ u. IsOther u v) us → AllByRecursion (λ u. AllByRecursion (IsOther u) (put ws v)) us
      both [] h k = tt
      both (u ∷ us) h k = (all_put (IsOther u) v ws k.0 h.0, both us h.1 k.1)

  joined_others : (vs ws : List V) → AreOthers vs → AreOthers ws → AllByRecursion (λ w. AllByRecursion (IsOther w) vs) ws → AreOthers (vs ++ ws)
  joined_others [] ws h k apart = k
  joined_others (v ∷ vs) ws h k apart = (
    all_joined (λ w. IsOther w v) vs ws h.0 (all_more (λ w. AllByRecursion (IsOther w) (v ∷ vs)) (λ w. IsOther w v) (λ w a. a.0) ws apart),
    joined_others vs ws h.1 k (all_more (λ w. AllByRecursion (IsOther w) (v ∷ vs)) (λ w. AllByRecursion (IsOther w) vs) (λ w a. a.1) ws apart),
  )

  -- what ascends
  sorted_others : (vs : List V) → IsStrictlySortedBy text_cmp (map key vs) → AreOthers vs
  unfolding IsStrictlySortedBy
  sorted_others [] h = tt
  sorted_others (v ∷ vs) h = (
    all_more (λ w. text_cmp (key v) (key w) ≡ Less) (λ w. IsOther w v) (λ w less. ap is_eq (nat_list_cmp_total.antisymm (key w) (key v) ∙ ap ordering_reverse less)) vs (all_of_map key (λ k. text_cmp (key v) k ≡ Less) vs h.0),
    sorted_others vs h.1,
  )

  kept_others : (f : V → Bool) (vs : List V) → AreOthers vs → AreOthers (filter f vs)
  kept_others f [] h = tt
  kept_others f (v ∷ vs) h = by (f v) (kept_others f vs h.1)
    where
      by : (b : Bool) → AreOthers (filter f vs) → AreOthers (cond b (v ∷ filter f vs) (filter f vs))
      by true k = (kept (λ w. IsOther w v) f vs h.0, k)
      by false k = k

  -- where a look-up finds none
  none_other : (q : List ℕ) (vs : List V) → find (has_key text_cmp key q) vs ≡ None → AllByRecursion (λ v. is_eq (text_cmp q (key v)) ≡ false) vs
  none_other q [] h = tt
  none_other q (v ∷ vs) h = by (is_eq (text_cmp q (key v))) refl (none_other q vs) h
    where
      by : (b : Bool) → is_eq (text_cmp q (key v)) ≡ b → (find (has_key text_cmp key q) vs ≡ None → AllByRecursion (λ v. is_eq (text_cmp q (key v)) ≡ false) vs) → cond b (Some v) (find (has_key text_cmp key q) vs) ≡ None → (is_eq (text_cmp q (key v)) ≡ false) × AllByRecursion (λ v. is_eq (text_cmp q (key v)) ≡ false) vs
      by true e rest k = absurd (cc k)
      by false e rest k = (e, rest k)

mapped_others : (ps : List PolicyData) → AreOthers (λ p. p.id) ps → AreOthers (λ t. t.id) (map written_of ps)
mapped_others [] h = tt
mapped_others (p ∷ ps) h = (all_map written_of (λ t. IsOther (λ t. t.id) t (written_of p)) ps h.0, mapped_others ps h.1)

pub all_written : (P : TemplateData → Type 0) (s : PolicySetData) → IsPolicySet s → AllByRecursion P (written s) → AllByRecursion P s.templates × AllByRecursion (λ p. is_static p ≡ true → P (written_of p)) s.policies
all_written P s set h =
    let others = joined_others (λ t. t.id) s.templates (statics s) (sorted_others (λ t. t.id) s.templates set.template_ids)
    (mapped_others (filter is_static s.policies) (kept_others (λ p. p.id) is_static s.policies (sorted_others (λ p. p.id) s.policies set.policy_ids)))
    (all_map written_of (λ t. AllByRecursion (IsOther (λ t. t.id) t) s.templates) (filter is_static s.policies)
    (kept (λ p. AllByRecursion (IsOther (λ t. t.id) (written_of p)) s.templates) is_static s.policies
    (all_more (λ p. template_at s p.id ≡ None) (λ p. AllByRecursion (IsOther (λ t. t.id) (written_of p)) s.templates) (λ p none. none_other (λ t. t.id) p.id s.templates none) s.policies set.apart))) in
    let each = all_split P s.templates (statics s) (each_put (λ t. t.id) P [] (s.templates ++ statics s) (nothing (s.templates ++ statics s)) others h).1 in
    (each.0, passed (λ p. P (written_of p)) is_static s.policies (all_of_map written_of P (filter is_static s.policies) each.1))
  where
    nothing : (ts : List TemplateData) → AllByRecursion (λ t. Unit {0}) ts
    nothing [] = tt
    nothing (t ∷ ts) = (tt, nothing ts)
