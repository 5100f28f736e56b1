-- From the closure of the parents to a store.
use Rattle.std.proofs.Common.{◌≡◌, true, ◌↔◌, List, Option, Some, None, All, Contains, refl, sym, ◌∙◌, ap}
use Rattle.std.specs.List.Sorted.{IsStrictlySortedBy}
use Rattle.std.specs.Option.{is_some, option_map, option_map_or, IsSomeAnd, IfSome}
use Rattle.std.specs.BTreeSet.{BTreeSet}
use Rattle.std.proofs.lemmas.Bool.{false≢true}
use Rattle.policy_values.specs.Reaches.{Reaches, at, Leads, IsClosure}
use Rattle.policy_values.specs.Least.{IsLeast}
use Rattle.policy_values.specs.Repeated.{IsRepeated}
use Rattle.policy_values.proofs.Keyed.{value_named}
use Rattle.policy_values.proofs.Least.{IsLeast-same}
use Rattle.policy_values.proofs.Reaches.{Leads-is_some, Reaches-map}
use Rattle.policy_values.specs.declared.entity_uid.EntityUID.{EntityUID}
use Rattle.policy_values.specs.Uid.{uid_cmp, exact_uid}
use Rattle.entity_store.specs.Store.{StoredEntity, entity_at}
use Rattle.entity_store.specs.FromParents.{ids_of, Lists, IsOwnAncestor, IsFromParents, without_links}
use Rattle.entity_store.specs.Linked.{links_of, linked}

module _ (es : List StoredEntity) (parents closed : List (EntityUID × BTreeSet EntityUID))
    (placed : (q : EntityUID) → at uid_cmp parents q ≡ option_map links_of (entity_at es q))
    (closure : IsClosure uid_cmp parents closed) where
  listed : (x y : EntityUID) → Leads uid_cmp parents x y ↔ Lists es x y
  listed x y = rw (placed x) (by_entity (entity_at es x)) where
    by_entity : (r : Option StoredEntity) → IsSomeAnd (option_map links_of r) (λ s. Contains s.keys y) ↔ IsSomeAnd r (λ e. Contains e.ancestors y)
    by_entity None = (λ h. h, λ h. h)
    by_entity (Some e) = (λ h. h, λ h. h)

  is_reached : (x y : EntityUID) → Leads uid_cmp closed x y ↔ Reaches (Lists es) x y
  is_reached x y = (λ h. Reaches-map (λ a b. (listed a b).0) ((closure.reached x y).0 h), λ h. (closure.reached x y).1 (Reaches-map (λ a b. (listed a b).1) h))

  pub least_own : (uid : EntityUID) → IsLeast uid_cmp (λ q. Leads uid_cmp closed q q) uid → IsLeast uid_cmp (IsOwnAncestor es) uid
  least_own uid l = IsLeast-same (λ q. is_reached q q) l

  -- each entity has ancestors
  pub closed_keys : (q : EntityUID) → is_some (at uid_cmp closed q) ≡ is_some (entity_at es q)
  closed_keys q = closure.keys q ∙ ap is_some (placed q) ∙ by_entity (entity_at es q) where
    by_entity : (r : Option StoredEntity) → is_some (option_map links_of r) ≡ is_some r
    by_entity None = refl
    by_entity (Some e) = refl

  linked_lists : (x y : EntityUID) → IsSomeAnd (option_map (linked (at uid_cmp closed)) (entity_at es x)) (λ e. Contains e.ancestors y) ↔ Leads uid_cmp closed x y
  linked_lists x y = by_entity (entity_at es x) (value_named uid_cmp (λ e. e.uid) exact_uid es x) (closed_keys x) where
    by_set : (own : List EntityUID) (r : Option (BTreeSet EntityUID)) → is_some r ≡ true → Contains (option_map_or (λ s. s.keys) r own) y ↔ IsSomeAnd r (λ s. Contains s.keys y)
    by_set own None some = absurd (false≢true some)
    by_set own (Some s) some = (λ h. h, λ h. h)

    by_entity : (r : Option StoredEntity) → IfSome r (λ e. e.uid ≡ x) → is_some (at uid_cmp closed x) ≡ is_some r → IsSomeAnd (option_map (linked (at uid_cmp closed)) r) (λ e. Contains e.ancestors y) ↔ Leads uid_cmp closed x y
    by_entity None own none = (λ h. absurd h, λ h. absurd (false≢true (sym none ∙ Leads-is_some uid_cmp closed x y h)))
    by_entity (Some e) own some = rw own (by_set e.ancestors (at uid_cmp closed x) some)

  pub store_made : (store : List StoredEntity) → ((q : EntityUID) → IsRepeated (ids_of es) q → ⊥) → ((q : EntityUID) → Leads uid_cmp closed q q → ⊥)
      → IsStrictlySortedBy uid_cmp (ids_of store)
      → ((q : EntityUID) → entity_at store q ≡ option_map (linked (at uid_cmp closed)) (entity_at es q))
      → All (λ e. IsStrictlySortedBy uid_cmp e.ancestors) store
      → IsFromParents es store
  store_made store once none ordered is ascending = record {
    once = once;
    no_cycle = λ q own. none q ((is_reached q q).1 own);
    ordered = ordered;
    kept = λ q. rw (is q) (by_entity (entity_at es q));
    ancestors = λ x y. let lists : Lists store x y ↔ Leads uid_cmp closed x y = rw (is x) (linked_lists x y) in (λ h. (is_reached x y).0 (lists.0 h), λ h. lists.1 ((is_reached x y).1 h));
    ascending = ascending;
  } where
    by_entity : (r : Option StoredEntity) → option_map without_links (option_map (linked (at uid_cmp closed)) r) ≡ option_map without_links r
    by_entity None = refl
    by_entity (Some e) = refl
