-- The entities of a list with their parents make one store.
use Rattle.std.proofs.Common.{◌≡◌, ◌↔◌, Bool, true, false, List, [], ◌∷◌, Option, Some, None, Contains, cond, sym, ◌∙◌, refl, subst}
use Rattle.std.specs.Prelude.{IsSomeAnd}
use Rattle.std.specs.Option.{option_map}
use Rattle.std.specs.List.{AllByRecursion}
use Rattle.std.specs.List.Sorted.{IsStrictlySortedBy}
use Rattle.std.proofs.lemmas.List.Elements.{recursion_from_All}
use Rattle.std.proofs.lemmas.Map.Views.{btree_set_contains_iff}
use Rattle.std.specs.Cmp.{both_ways}
use Rattle.policy_values.specs.Reaches.{has, Reaches}
use Rattle.policy_values.proofs.SameSorted.{same_sorted, same_values}
use Rattle.policy_values.specs.declared.entity_uid.EntityUID.{EntityUID}
use Rattle.policy_values.specs.Uid.{uid_cmp, uid_cmp_total, exact_uid}
use Rattle.entity_store.specs.Store.{StoredEntity, is_named, entity_at}
use Rattle.entity_store.specs.FromParents.{IsFromParents, Lists, without_links}

-- ascending ids with the same elements are one list
same_ids : (xs ys : List EntityUID) → IsStrictlySortedBy uid_cmp xs → IsStrictlySortedBy uid_cmp ys → ((y : EntityUID) → Contains xs y ↔ Contains ys y) → xs ≡ ys
same_ids xs ys h k same = same_sorted uid_cmp uid_cmp_total exact_uid xs ys h k at
  where
    at : (q : EntityUID) → has uid_cmp xs q ≡ has uid_cmp ys q
    at q =
        let left = btree_set_contains_iff uid_cmp_total exact_uid (record { keys = xs }) q in
        let right = btree_set_contains_iff uid_cmp_total exact_uid (record { keys = ys }) q in
        both_ways (has uid_cmp xs q) (has uid_cmp ys q) (λ e. right.1 ((same q).0 (left.0 e))) (λ e. left.1 ((same q).1 (right.0 e)))

abbrev AreSorted : List StoredEntity → Type 0
AreSorted es = AllByRecursion (λ e. IsStrictlySortedBy uid_cmp e.ancestors) es

found_at : (b : Bool) (q : EntityUID) (e f : StoredEntity) (es : List StoredEntity) → AreSorted (e ∷ es) → cond b (Some e) (entity_at es q) ≡ Some f → (entity_at es q ≡ Some f → IsStrictlySortedBy uid_cmp f.ancestors) → IsStrictlySortedBy uid_cmp f.ancestors
found_at true q e f es all is later = subst (λ (g : StoredEntity). IsStrictlySortedBy uid_cmp g.ancestors) (same is) all.0
  where
    same : Some e ≡ Some f → e ≡ f
    same h = cc
found_at false q e f es all is later = later is

-- the ancestors of an entity that is found ascend
found_sorted : (q : EntityUID) (f : StoredEntity) (es : List StoredEntity) → AreSorted es → entity_at es q ≡ Some f → IsStrictlySortedBy uid_cmp f.ancestors
found_sorted q f [] all is = cc
found_sorted q f (e ∷ es) all is = found_at (is_named q e) q e f es all is (found_sorted q f es all.1)

module _ (es a b : List StoredEntity) (of_a : IsFromParents es a) (of_b : IsFromParents es b) (q : EntityUID) where
  same_links : (e f : StoredEntity) → entity_at a q ≡ Some e → entity_at b q ≡ Some f → (y : EntityUID) → Contains e.ancestors y ↔ Contains f.ancestors y
  same_links e f is_a is_b y =
      let left : Contains e.ancestors y ↔ Reaches (Lists es) q y = subst (λ o. IsSomeAnd o (λ g. Contains g.ancestors y) ↔ Reaches (Lists es) q y) is_a (of_a.ancestors q y) in
      let right : Contains f.ancestors y ↔ Reaches (Lists es) q y = subst (λ o. IsSomeAnd o (λ g. Contains g.ancestors y) ↔ Reaches (Lists es) q y) is_b (of_b.ancestors q y) in
      (λ h. right.1 (left.0 h), λ h. left.1 (right.0 h))

  same_at : (o p : Option StoredEntity) → entity_at a q ≡ o → entity_at b q ≡ p → option_map without_links o ≡ option_map without_links p → o ≡ p
  same_at None None is_a is_b same = refl
  same_at None (Some f) is_a is_b same = cc
  same_at (Some e) None is_a is_b same = cc
  same_at (Some e) (Some f) is_a is_b same =
      let rest : without_links e ≡ without_links f = cc (same) in
      let up : e.ancestors ≡ f.ancestors = same_ids e.ancestors f.ancestors (found_sorted q e a (recursion_from_All _ a of_a.ascending) is_a) (found_sorted q f b (recursion_from_All _ b of_b.ascending) is_b) (same_links e f is_a is_b) in
      λ i. Some (record { uid = (rest i).uid; attrs = (rest i).attrs; ancestors = up i; tags = (rest i).tags })

pub one_store : (es a b : List StoredEntity) → IsFromParents es a → IsFromParents es b → a ≡ b
one_store es a b of_a of_b = same_values uid_cmp uid_cmp_total exact_uid (λ e. e.uid) a b of_a.ordered of_b.ordered at
  where
    at : (q : EntityUID) → entity_at a q ≡ entity_at b q
    at q = same_at es a b of_a of_b q (entity_at a q) (entity_at b q) refl refl (of_a.kept q ∙ sym (of_b.kept q))
