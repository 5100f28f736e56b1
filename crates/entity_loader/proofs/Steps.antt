-- Merging field by field, and uniting id by id.
use Rattle.std.proofs.Common.{◌≡◌, ℕ, Bool, true, false, List, [], ◌∷◌, Option, Some, None, cond, refl, sym, ap, ◌∙◌, subst}
use Rattle.std.specs.declared.cmp.Ordering.{Ordering}
use Rattle.std.specs.declared.cmp.Ordering.TheVariants.{Less, Equal, Greater}
use Rattle.std.specs.Ordering.{is_eq, match_ordering, ordering_reverse}
use Rattle.std.specs.BTreeMap.{insert_entry, is_at}
use Rattle.std.specs.BTreeSet.{insert_key}
use Rattle.std.specs.List.{AllByRecursion}
use Rattle.std.specs.List.Sorted.{IsStrictlySortedBy}
use Rattle.std.specs.Map.{keys_of, lookup}
use Rattle.std.specs.Option.{option_and_then}
use Rattle.std.proofs.lemmas.Cmp.{nat_list_cmp_total}
use Rattle.std.proofs.lemmas.Map.Lookups.{exact_bytes}
use Rattle.policy_values.specs.declared.entity_uid.EntityUID.{EntityUID}
use Rattle.policy_values.specs.Uid.{text_cmp, uid_cmp, uid_cmp_total, exact_uid}
use Rattle.policy_values.specs.Value.{Val, Fields, no_fields, field, fields_of}
use Rattle.policy_values.specs.ValueOrder.{IsBelowField}
use Rattle.reads_spec.specs.Merge.{with_first, merge, merge_fields, united}
use Rattle.entity_loader.specs.Merged.{merged_with}

pub merge_end : (fs : Fields) → merge_fields fs no_fields ≡ Some fs
merge_end no_fields = refl
merge_end (field m v fs) = refl

-- a field before all others is the first of what is merged
first : (m : List ℕ) (v : Val) (fs gs : Fields) → IsBelowField m gs → merge_fields (field m v fs) gs ≡ with_first m (Some v) (merge_fields fs gs)
first m v fs no_fields h = ap (with_first m (Some v)) (sym (merge_end fs))
first m v fs (field n w gs) h = rw h refl

turned : (k m : List ℕ) (o : Ordering) → text_cmp k m ≡ o → text_cmp m k ≡ ordering_reverse o
turned k m o e = nat_list_cmp_total.antisymm m k ∙ ap ordering_reverse e

below_on : (m k : List ℕ) (gs : Fields) → text_cmp m k ≡ Less → IsBelowField k gs → IsBelowField m gs
below_on m k no_fields h b = tt
below_on m k (field n w gs) h b = nat_list_cmp_total.trans m k n h b

absent : (k m : List ℕ) (es : List (List ℕ × Val)) → text_cmp k m ≡ Less → AllByRecursion (λ n. text_cmp m n ≡ Less) (keys_of es) → lookup (is_at (text_cmp k)) es ≡ None
absent k m [] h all = refl
absent k m (e ∷ es) h all = rw (nat_list_cmp_total.trans k m e.0 h all.0) (absent k m es h all.1)

first_later : (m : List ℕ) (v : Val) (o : Option Val) (f : Val → Option Fields) → with_first m (Some v) (option_and_then f o) ≡ option_and_then (λ w. with_first m (Some v) (f w)) o
first_later m v None f = refl
first_later m v (Some w) f = refl

first_of : (m : List ℕ) (o : Option Val) (fs gs : Fields) → IsBelowField m gs → with_first m o (merge_fields fs gs) ≡ option_and_then (λ w. merge_fields (field m w fs) gs) o
first_of m None fs gs h = refl
first_of m (Some w) fs gs h = sym (first m w fs gs h)

abbrev put : List (List ℕ × Val) → List ℕ → Val → Fields
put es k w = fields_of (insert_entry text_cmp es k w)

-- the first of the others is merged with what there is under its key
pub merged_more : (es : List (List ℕ × Val)) (k : List ℕ) (v : Val) (gs : Fields) → IsStrictlySortedBy text_cmp (keys_of es) → IsBelowField k gs
    → merge_fields (fields_of es) (field k v gs) ≡ option_and_then (λ w. merge_fields (fields_of (insert_entry text_cmp es k w)) gs) (merged_with (lookup (is_at (text_cmp k)) es) v)
unfolding IsStrictlySortedBy
merged_more [] k v gs up below = sym (first k v no_fields gs below)
merged_more (e ∷ es) k v gs up below = by (text_cmp k e.0) refl (merged_more es k v gs up.1 below) where
  by : (o : Ordering) → text_cmp k e.0 ≡ o
      → merge_fields (fields_of es) (field k v gs) ≡ option_and_then (λ w. merge_fields (put es k w) gs) (merged_with (lookup (is_at (text_cmp k)) es) v)
      → merge_fields (field e.0 e.1 (fields_of es)) (field k v gs) ≡ option_and_then (λ w. merge_fields (fields_of (match_ordering o ((k, w) ∷ e ∷ es) ((e.0, w) ∷ es) (e ∷ insert_entry text_cmp es k w))) gs) (merged_with (cond (is_eq o) (Some e.1) (lookup (is_at (text_cmp k)) es)) v)
  by Less is later = rw (turned k e.0 Less is, absent k e.0 es is up.0) (sym (first k v (field e.0 e.1 (fields_of es)) gs below))
  by Equal is later = rw (turned k e.0 Equal is) (first_of e.0 (merge e.1 v) (fields_of es) gs (subst (λ l. IsBelowField l gs) (exact_bytes k e.0 is) below))
  by Greater is later =
      let o = merged_with (lookup (is_at (text_cmp k)) es) v in
      let prefix : IsBelowField e.0 gs = below_on e.0 k gs (turned k e.0 Greater is) below in
      rw (turned k e.0 Greater is) (ap (with_first e.0 (Some e.1)) later ∙ first_later e.0 e.1 o (λ w. merge_fields (put es k w) gs)
      ∙ ap (λ f. option_and_then f o) (λ i w. sym (first e.0 e.1 (put es k w) gs prefix) i))

below_rest : (k : List ℕ) (es : List (List ℕ × Val)) → AllByRecursion (λ n. text_cmp k n ≡ Less) (keys_of es) → IsBelowField k (fields_of es)
below_rest k [] all = tt
below_rest k (e ∷ es) all = all.0

module _ (es : List (List ℕ × Val)) (k : List ℕ) (v : Val) (rest left : List (List ℕ × Val)) (up : IsStrictlySortedBy text_cmp (keys_of es)) (ascends : IsStrictlySortedBy text_cmp (keys_of left)) (is : left ≡ (k, v) ∷ rest) where
  ordered : IsStrictlySortedBy text_cmp (k ∷ keys_of rest)
  ordered = subst (λ l. IsStrictlySortedBy text_cmp (keys_of l)) is ascends

  pub rest_ascends : IsStrictlySortedBy text_cmp (keys_of rest)
  unfolding IsStrictlySortedBy
  rest_ascends = ordered.1

  pub merged_step : (o : Option Val) → o ≡ merged_with (lookup (is_at (text_cmp k)) es) v → merge_fields (fields_of es) (fields_of left) ≡ option_and_then (λ w. merge_fields (fields_of (insert_entry text_cmp es k w)) (fields_of rest)) o
  unfolding IsStrictlySortedBy
  merged_step o e =
      ap (λ l. merge_fields (fields_of es) (fields_of l)) is
      ∙ merged_more es k v (fields_of rest) up (below_rest k rest ordered.0)
      ∙ ap (option_and_then (λ w. merge_fields (fields_of (insert_entry text_cmp es k w)) (fields_of rest))) (sym e)

-- ids
id_turned : (x y : EntityUID) (o : Ordering) → uid_cmp y x ≡ o → uid_cmp x y ≡ ordering_reverse o
id_turned x y o e = uid_cmp_total.antisymm x y ∙ ap ordering_reverse e

pub united_end : (xs : List EntityUID) → united xs [] ≡ xs
united_end [] = refl
united_end (x ∷ xs) = refl

-- the id comes before the first of the others
abbrev IsFirst : EntityUID → List EntityUID → Type 0
IsFirst x [] = Unit {0}
IsFirst x (y ∷ ys) = uid_cmp x y ≡ Less

first_id : (x : EntityUID) (xs ys : List EntityUID) → IsFirst x ys → united (x ∷ xs) ys ≡ x ∷ united xs ys
first_id x xs [] h = ap (λ zs. x ∷ zs) (sym (united_end xs))
first_id x xs (y ∷ ys) h = rw h refl

id_before : (x y : EntityUID) (ys : List EntityUID) → uid_cmp x y ≡ Less → IsFirst y ys → IsFirst x ys
id_before x y [] h f = tt
id_before x y (z ∷ ys) h f = uid_cmp_total.trans x y z h f

first_below : (y : EntityUID) (ys : List EntityUID) → IsStrictlySortedBy uid_cmp (y ∷ ys) → IsFirst y ys
unfolding IsStrictlySortedBy
first_below y [] up = tt
first_below y (z ∷ ys) up = up.0.0

-- the first of the others is put in its place
pub united_more : (xs : List EntityUID) (y : EntityUID) (ys : List EntityUID) → IsStrictlySortedBy uid_cmp (y ∷ ys) → united xs (y ∷ ys) ≡ united (insert_key uid_cmp xs y) ys
united_more [] y ys up = sym (first_id y [] ys (first_below y ys up))
united_more (x ∷ xs) y ys up = by (uid_cmp y x) refl (united_more xs y ys up) where
  prefix : IsFirst y ys
  prefix = first_below y ys up

  by : (o : Ordering) → uid_cmp y x ≡ o → united xs (y ∷ ys) ≡ united (insert_key uid_cmp xs y) ys
      → united (x ∷ xs) (y ∷ ys) ≡ united (match_ordering o (y ∷ x ∷ xs) (x ∷ xs) (x ∷ insert_key uid_cmp xs y)) ys
  by Less is later = rw (id_turned x y Less is) (sym (first_id y (x ∷ xs) ys prefix))
  by Equal is later = rw (id_turned x y Equal is) (sym (first_id x xs ys (subst (λ z. IsFirst z ys) (exact_uid y x is) prefix)))
  by Greater is later =
      rw (id_turned x y Greater is) (ap (λ zs. x ∷ zs) later ∙ sym (first_id x (insert_key uid_cmp xs y) ys (id_before x y ys (id_turned x y Greater is) prefix)))

pub later_ids : (y : EntityUID) (ys : List EntityUID) → IsStrictlySortedBy uid_cmp (y ∷ ys) → IsStrictlySortedBy uid_cmp ys
unfolding IsStrictlySortedBy
later_ids y ys up = up.1

-- what stands at an id after the old entity was taken away and another put there
pub kept_at : {X : Type 0} (b : Bool) (new made old mid : Option X) → new ≡ made → mid ≡ cond b None old → cond b new mid ≡ cond b made old
kept_at true new made old mid e f = e
kept_at false new made old mid e f = f
