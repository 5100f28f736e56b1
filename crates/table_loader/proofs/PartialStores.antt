-- The store of a part of the entities.
use Rattle.std.proofs.Common.{◌≡◌, ◌↔◌, true, false, Bool, List, [], ◌∷◌, Option, Some, None, Contains, cond, refl, sym, ap, ◌∙◌, subst}
use Rattle.std.specs.Prelude.{IsSomeAnd}
use Rattle.std.specs.Option.{option_map}
use Rattle.std.specs.List.{AllByRecursion}
use Rattle.std.specs.List.Sorted.{IsStrictlySortedBy}
use Rattle.std.proofs.lemmas.List.Elements.{recursion_from_All}
use Rattle.std.proofs.lemmas.Map.Views.{btree_set_contains_iff}
use Rattle.std.specs.Cmp.{both_ways}
use Rattle.policy_values.specs.Reaches.{has}
use Rattle.policy_values.proofs.SameSorted.{same_sorted}
use Rattle.policy_values.specs.declared.entity_uid.EntityUID.{EntityUID}
use Rattle.policy_values.specs.Uid.{uid_cmp, uid_cmp_total, exact_uid}
use Rattle.entity_store.specs.Store.{StoredEntity, is_named, entity_at}
use Rattle.entity_store.specs.FromParents.{IsFromParents, Lists, without_links}
use Rattle.table_loader.specs.Parents.{PartsAreRightStores, EntitiesAreWhole}
use Rattle.table_loader.proofs.PartialParents.{same_at, reached_up, ancestors_all, others_all}

-- ascending ids with the same elements are one list
same_ids : (xs ys : List EntityUID) → IsStrictlySortedBy uid_cmp xs → IsStrictlySortedBy uid_cmp ys → ((y : EntityUID) → Contains xs y ↔ Contains ys y) → xs ≡ ys
same_ids xs ys h k same = same_sorted uid_cmp uid_cmp_total exact_uid xs ys h k at
  where
    at : (q : EntityUID) → has uid_cmp xs q ≡ has uid_cmp ys q
    at q =
        let left = btree_set_contains_iff uid_cmp_total exact_uid (record { keys = xs }) q in
        let right = btree_set_contains_iff uid_cmp_total exact_uid (record { keys = ys }) q in
        both_ways (has uid_cmp xs q) (has uid_cmp ys q) (λ e. right.1 ((same q).0 (left.0 e))) (λ e. left.1 ((same q).1 (right.0 e)))

abbrev AreSorted : List StoredEntity → Type 0
AreSorted es = AllByRecursion (λ e. IsStrictlySortedBy uid_cmp e.ancestors) es

found_sorted : (q : EntityUID) (f : StoredEntity) (es : List StoredEntity) → AreSorted es → entity_at es q ≡ Some f → IsStrictlySortedBy uid_cmp f.ancestors
found_sorted q f [] all is = cc
found_sorted q f (e ∷ es) all is = here (is_named q e) is (found_sorted q f es all.1)
  where
    here : (b : Bool) → cond b (Some e) (entity_at es q) ≡ Some f → (entity_at es q ≡ Some f → IsStrictlySortedBy uid_cmp f.ancestors) → IsStrictlySortedBy uid_cmp f.ancestors
    here true g later = let same : e ≡ f = cc in subst (λ (x : StoredEntity). IsStrictlySortedBy uid_cmp x.ancestors) same all.0
    here false g later = later g

sorted_at : (es s : List StoredEntity) → IsFromParents es s → (x : EntityUID) (e : StoredEntity) → entity_at s x ≡ Some e → IsStrictlySortedBy uid_cmp e.ancestors
sorted_at es s made x e is = found_sorted x e s (recursion_from_All _ s made.ascending) is

-- two entities of stores with the same ancestors, and all else the same, are one
module _ (part all t s : List StoredEntity) (of_t : IsFromParents part t) (of_s : IsFromParents all s) (x : EntityUID) where
  alike_of : (o p : Option StoredEntity) → entity_at t x ≡ o → entity_at s x ≡ p → option_map without_links o ≡ option_map without_links p → ((y : EntityUID) → IsSomeAnd o (λ e. Contains e.ancestors y) ↔ IsSomeAnd p (λ e. Contains e.ancestors y)) → o ≡ p
  alike_of None None is_t is_s same links = refl
  alike_of None (Some f) is_t is_s same links = cc
  alike_of (Some e) None is_t is_s same links = cc
  alike_of (Some e) (Some f) is_t is_s same links =
      let rest : without_links e ≡ without_links f = cc (same) in
      let up : e.ancestors ≡ f.ancestors = same_ids e.ancestors f.ancestors (sorted_at part t of_t x e is_t) (sorted_at all s of_s x f is_s) links in
      λ i. Some (record { uid = (rest i).uid; attrs = (rest i).attrs; ancestors = up i; tags = (rest i).tags })

  one_entity : option_map without_links (entity_at t x) ≡ option_map without_links (entity_at s x) → ((y : EntityUID) → Lists t x y ↔ Lists s x y) → entity_at t x ≡ entity_at s x
  one_entity same links = alike_of (entity_at t x) (entity_at s x) refl refl same links

pub right_stores : PartsAreRightStores
right_stores part all closed s t of_s of_t x own =
    one_entity part all t s of_t of_s x
    (of_t.kept x ∙ ap (option_map without_links) (same_at part all closed.some x own) ∙ sym (of_s.kept x))
    (λ y. let both = reached_up part all closed x y own in (λ h. (of_s.ancestors x y).1 (both.0 ((of_t.ancestors x y).0 h)), λ h. (of_t.ancestors x y).1 (both.1 ((of_s.ancestors x y).0 h))))

pub whole_entities : EntitiesAreWhole
whole_entities seen found all are t s of_t of_s x own above =
    one_entity found all t s of_t of_s x (others_all seen found all are t s of_t of_s x own) (ancestors_all seen found all are t s of_t of_s x own above)
