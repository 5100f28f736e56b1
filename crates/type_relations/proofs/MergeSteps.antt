-- Steps of the merge of ascending attributes.
use Rattle.std.proofs.Common.{◌≡◌, ℕ, List, [], ◌∷◌, ◌++◌, Bool, Result, Ok, Err, Ordering, ap, ◌∙◌, sym, subst, arith}
use Rattle.std.specs.Prelude.{◌≤◌, ◌&&◌}
use Rattle.std.specs.Ordering.{match_ordering}
use Rattle.std.specs.declared.cmp.Ordering.TheVariants.{Less, Equal}
use Rattle.std.specs.List.{AllByRecursion}
use Rattle.std.specs.List.Sorted.{IsStrictlySortedBy}
use Rattle.std.specs.Map.{keys_of}
use Rattle.policy_values.specs.Uid.{text_cmp}
use Rattle.type_relations.specs.declared.mode.SubtypeMode.TheVariants.{Permissive}
use Rattle.type_relations.specs.Join.{keep, join, shared}
use Rattle.policy_values.specs.Maps.{IsNext}
use Rattle.schema_types.specs.TyView.{attrs_of}
use Rattle.type_relations.specs.JoinSteps.{kept_entry}
use Rattle.type_relations.proofs.JoinSteps.{in_prefix, in_prefix_all, in_prefix_one}
use Rattle.policy_values.proofs.MapSteps.{next-seam, keys_of-append}
use Rattle.schema_types.specs.Ty.{Ty, Attrs, size_of_attrs}
use Rattle.schema_types.specs.declared.kinds.LubHelp.{LubHelp}
use Rattle.schema_types.specs.declared.ty.AttributeType.{AttributeType}
use Rattle.std.proofs.lemmas.List.{append-nil, append_assoc}

abbrev Entries : Type 0
Entries = List (List ℕ × AttributeType)

-- one key less is still ascending
all_less : (x : List ℕ) (ks : List (List ℕ)) (k : List ℕ) (rest : List (List ℕ)) → AllByRecursion (λ y. text_cmp x y ≡ Less) (ks ++ k ∷ rest) → AllByRecursion (λ y. text_cmp x y ≡ Less) (ks ++ rest)
all_less x [] k rest h = h.1
all_less x (d ∷ ks) k rest h = (h.0, all_less x ks k rest h.1)

pub sorted_less : (ks : List (List ℕ)) (k : List ℕ) (rest : List (List ℕ)) → IsStrictlySortedBy text_cmp (ks ++ k ∷ rest) → IsStrictlySortedBy text_cmp (ks ++ rest)
unfolding IsStrictlySortedBy
sorted_less [] k rest h = h.1
sorted_less (d ∷ ks) k rest h = (all_less d ks k rest h.0, sorted_less ks k rest h.1)

pub sorted_kept : (made done : Entries) (k : List ℕ) (q : Bool) (r : Result Ty LubHelp) (rest : Entries) → made ≡ done ++ kept_entry k q r → IsStrictlySortedBy text_cmp (keys_of done ++ k ∷ keys_of rest) → IsStrictlySortedBy text_cmp (keys_of made ++ keys_of rest)
sorted_kept made done k q (Ok t) rest e h =
    subst (IsStrictlySortedBy text_cmp) (sym (ap (λ es. keys_of es ++ keys_of rest) e ∙ ap (λ ks. ks ++ keys_of rest) (keys_of-append done (kept_entry k q (Ok t))) ∙ append_assoc (keys_of done) (k ∷ []) (keys_of rest))) h
sorted_kept made done k q (Err x) rest e h =
    subst (IsStrictlySortedBy text_cmp) (sym (ap (λ es. keys_of es ++ keys_of rest) e ∙ ap (λ es. keys_of es ++ keys_of rest) (append-nil done))) (sorted_less (keys_of done) k (keys_of rest) h)

pub in_prefix_kept : (done : Entries) (k : List ℕ) (q : Bool) (r : Result Ty LubHelp) (zs : Attrs) → in_prefix (done ++ kept_entry k q r) zs ≡ in_prefix done (keep k q r zs)
in_prefix_kept done k q (Ok t) zs = in_prefix_one done (k, record { attr_type = t; is_required = q }) zs
in_prefix_kept done k q (Err h) zs = ap (λ es. in_prefix es zs) (append-nil done)

-- all is the join of what is done and of what is still to come; the keys ascend; what is to come of the first is no deeper than the whole
abbrev pub IsMerge : Attrs → Attrs → Entries → Entries → Entries → Type 0
IsMerge all xs done ls rs = record {
  left : in_prefix done (shared (attrs_of ls) (attrs_of rs)) ≡ all;
  keys : IsStrictlySortedBy text_cmp (keys_of done ++ keys_of ls);
  size : size_of_attrs (attrs_of ls) ≤ size_of_attrs xs;
}

module _ (all xs : Attrs) (done ls rs left right : Entries) (k l : List ℕ) (x y : AttributeType) (inv : IsMerge all xs done ls rs) (p : ls ≡ (k, x) ∷ left) where
  sorted : IsStrictlySortedBy text_cmp (keys_of done ++ k ∷ keys_of left)
  sorted = subst (λ es. IsStrictlySortedBy text_cmp (keys_of done ++ keys_of es)) p inv.keys

  pub merge_next : IsNext k (keys_of done)
  merge_next = next-seam (keys_of done) k (keys_of left) sorted

  pub merge_size : size_of_attrs (attrs_of ((k, x) ∷ left)) ≤ size_of_attrs xs
  merge_size = omega (arith, inv.size, ap (λ es. size_of_attrs (attrs_of es)) p)

  module _ (q : rs ≡ (l, y) ∷ right) where
    joined : in_prefix done (shared (attrs_of ((k, x) ∷ left)) (attrs_of ((l, y) ∷ right))) ≡ all
    joined = (λ i. in_prefix done (shared (attrs_of (sym p i)) (attrs_of (sym q i)))) ∙ inv.left

    abbrev by_order : Ordering → Attrs
    by_order o = in_prefix done (match_ordering o (shared (attrs_of left) (attrs_of ((l, y) ∷ right))) (keep k (x.is_required && y.is_required) (join Permissive x.attr_type y.attr_type) (shared (attrs_of left) (attrs_of right))) (shared (attrs_of ((k, x) ∷ left)) (attrs_of right)))

    pub merge_less : (next : Entries) → text_cmp k l ≡ Less → next ≡ left → IsMerge all xs done next rs
    merge_less next e n = record {
      left = (λ i. in_prefix done (shared (attrs_of (n i)) (attrs_of (q i)))) ∙ sym (ap by_order e) ∙ joined;
      keys = subst (λ es. IsStrictlySortedBy text_cmp (keys_of done ++ keys_of es)) (sym n) (sorted_less (keys_of done) k (keys_of left) sorted);
      size = omega (arith, merge_size, ap (λ es. size_of_attrs (attrs_of es)) n);
    }

    pub merge_both : (made next others : Entries) → text_cmp k l ≡ Equal → made ≡ done ++ kept_entry k (x.is_required && y.is_required) (join Permissive x.attr_type y.attr_type) → next ≡ left → others ≡ right → IsMerge all xs made next others
    merge_both made next others e m n o = record {
      left = (λ i. in_prefix (m i) (shared (attrs_of (n i)) (attrs_of (o i))))
          ∙ in_prefix_kept done k (x.is_required && y.is_required) (join Permissive x.attr_type y.attr_type) (shared (attrs_of left) (attrs_of right)) ∙ sym (ap by_order e) ∙ joined;
      keys = subst (λ es. IsStrictlySortedBy text_cmp (keys_of made ++ keys_of es)) (sym n) (sorted_kept made done k (x.is_required && y.is_required) (join Permissive x.attr_type y.attr_type) left m sorted);
      size = omega (arith, merge_size, ap (λ es. size_of_attrs (attrs_of es)) n);
    }

pub merge_over_left : (all xs : Attrs) (done ls rs : Entries) → IsMerge all xs done ls rs → ls ≡ [] → attrs_of done ≡ all
merge_over_left all xs done ls rs inv p = sym (in_prefix_all done) ∙ (λ i. in_prefix done (shared (attrs_of (sym p i)) (attrs_of rs))) ∙ inv.left

pub merge_over_right : (all xs : Attrs) (done ls rs left : Entries) (k : List ℕ) (x : AttributeType) → IsMerge all xs done ls rs → ls ≡ (k, x) ∷ left → rs ≡ [] → attrs_of done ≡ all
merge_over_right all xs done ls rs left k x inv p q = sym (in_prefix_all done) ∙ (λ i. in_prefix done (shared (attrs_of (sym p i)) (attrs_of (sym q i)))) ∙ inv.left
