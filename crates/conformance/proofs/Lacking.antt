-- Entities in which an ancestor of their action is missing: the least of their ids, and a walk through all entities up to it.
use Rattle.std.proofs.Common.{◌≡◌, Bool, true, false, ◌||◌, ◌&&◌, not, ◌↔◌, inl, inr, IsTrue, List, [], ◌∷◌, ◌++◌, Option, Some, None, IsSome, IfSome, cond, refl, sym, ◌∙◌, ap, subst}
use Rattle.std.specs.declared.cmp.Ordering.{Ordering}
use Rattle.std.specs.declared.cmp.Ordering.TheVariants.{Less}
use Rattle.std.specs.Cmp.{IsTotalOrder, both_ways, tied_itself}
use Rattle.std.specs.List.{find, list_all, AllByRecursion}
use Rattle.std.specs.List.Sorted.{IsStrictlySortedBy}
use Rattle.std.specs.Option.{is_some, option_or, option_map, option_map_or}
use Rattle.std.specs.Ordering.{is_eq, is_gt, ordering_reverse}
use Rattle.std.proofs.lemmas.Bool.{or_cases, or_left, or_right, and_parts, and_from, false≢true}
use Rattle.std.proofs.lemmas.List.Folds.{list_all-append}
use Rattle.std.proofs.lemmas.Map.Keys.{sorted_head, sorted_tail}
use Rattle.std.proofs.lemmas.Map.Lookups.{CmpEqualImpliesEq}
use Rattle.std.proofs.lemmas.Map.Views.{tells_apart}
use Rattle.policy_values.specs.Reaches.{has}
use Rattle.policy_values.specs.Least.{IsLeastIfAny, lower_of}
use Rattle.policy_values.proofs.Least.{IsRest, least_here, rest_more, none_left, IsLeastIfAny-same, lower_least}
use Rattle.policy_values.specs.declared.entity_uid.EntityUID.{EntityUID}
use Rattle.policy_values.specs.Uid.{uid_cmp, uid_cmp_total, exact_uid}
use Rattle.policy_values.specs.Basename.{is_action_type}
use Rattle.entity_store.specs.Store.{StoredEntity, Store, is_named, entity_at}
use Rattle.entity_store.specs.FromParents.{ids_of}
use Rattle.policy_values.proofs.Keyed.{value_named}
use Rattle.schema_core.specs.Schema.{SchemaData, ActionData, action_at, action_below}
use Rattle.conformance.specs.declared.store_rule.StoreRule.{StoreRule}
use Rattle.conformance.specs.declared.store_rule.StoreRule.TheVariants.{ActionNotDeclared, ActionHasAttributes, ActionHasTags, ActionAncestorsDiffer}
use Rattle.conformance.specs.RequestRules.{unless}
use Rattle.conformance.specs.StoreRules.{is_ancestor_if_above, has_all_ancestors, action_entity_fault, entity_fault, first_store_fault, first_key, lacks, lacks_it}

-- what is found first among ascending keys is the least
module _ {K : Type 0} {cmp : K → K → Ordering} (o : IsTotalOrder cmp) (exact : CmpEqualImpliesEq cmp) (all : List K) (p : K → Bool) where
  abbrev Passes : K → Type 0
  Passes q = (has cmp all q && p q) ≡ true

  found : (xs : List K) → IsRest cmp Passes xs → ((q : K) → has cmp xs q ≡ true → has cmp all q ≡ true) → IsLeastIfAny cmp Passes (find p xs)
  found [] r among = none_left o exact Passes r
  found (x ∷ xs) r among = by_test (p x) refl (λ rest. found xs rest (λ q h. among q (or_right (is_eq (cmp q x)) (has cmp xs q) h))) where
    by_test : (b : Bool) → p x ≡ b → (IsRest cmp Passes xs → IsLeastIfAny cmp Passes (find p xs)) → IsLeastIfAny cmp Passes (cond b (Some x) (find p xs))
    by_test true is later = least_here o exact Passes x xs r (and_from (has cmp all x) (p x) (among x (or_left (is_eq (cmp x x)) (has cmp xs x) (ap is_eq (tied_itself o x)))) is)
    by_test false is later = later (rest_more o exact Passes x xs r (λ h. false≢true (sym is ∙ (and_parts (has cmp all x) (p x) h).1)))

  pub first_is_least : IsStrictlySortedBy cmp all → IsLeastIfAny cmp Passes (find p all)
  first_is_least sorted = found all (record { ordered = sorted; among = λ q h. (and_parts (has cmp all q) (p q) h).0 }) (λ q h. h)

nothing : (d : Bool) → false ≡ (false || (d && false))
nothing false = refl
nothing true = refl

one_more : (t a d n : Bool) → (t && not (a && ((not d || n) && true))) ≡ ((t && not a) || (d && (t && not n)))
one_more false a false n = refl
one_more false a true n = refl
one_more true false d n = refl
one_more true true false n = refl
one_more true true true false = refl
one_more true true true true = refl

joined : (s : Store) (acts : List ActionData) (a : ActionData) (q : EntityUID) → lacks (acts ++ a ∷ []) s q ≡ (lacks acts s q || (has uid_cmp a.descendants q && lacks_it s a q))
joined s acts a q = by_entity (entity_at s q) (value_named uid_cmp (λ (e : StoredEntity). e.uid) exact_uid s q) where
  by_entity : (r : Option StoredEntity) → IfSome r (λ e. e.uid ≡ q)
      → option_map_or (λ e. is_action_type q.entity_type && not (list_all (is_ancestor_if_above e) (acts ++ a ∷ []))) r false
      ≡ (option_map_or (λ e. is_action_type q.entity_type && not (list_all (is_ancestor_if_above e) acts)) r false
      || (has uid_cmp a.descendants q && option_map_or (λ e. is_action_type q.entity_type && not (has uid_cmp e.ancestors a.name)) r false))
  by_entity None own = nothing (has uid_cmp a.descendants q)
  by_entity (Some e) own =
      ap (λ b. is_action_type q.entity_type && not b) (list_all-append (is_ancestor_if_above e) acts (a ∷ []))
      ∙ ap (λ u. is_action_type q.entity_type && not (list_all (is_ancestor_if_above e) acts && ((not (has uid_cmp a.descendants u) || has uid_cmp e.ancestors a.name) && true))) own
      ∙ one_more (is_action_type q.entity_type) (list_all (is_ancestor_if_above e) acts) (has uid_cmp a.descendants q) (has uid_cmp e.ancestors a.name)

-- with one action more
pub lacks_more : (s : Store) (acts : List ActionData) (a : ActionData) (least first : Option EntityUID) → IsLeastIfAny uid_cmp (λ q. lacks acts s q ≡ true) least
    → IsLeastIfAny uid_cmp (λ q. (has uid_cmp a.descendants q && lacks_it s a q) ≡ true) first
    → IsLeastIfAny uid_cmp (λ q. lacks (acts ++ a ∷ []) s q ≡ true) (lower_of uid_cmp least first)
lacks_more s acts a least first l f =
    IsLeastIfAny-same uid_cmp _ (λ q. lacks (acts ++ a ∷ []) s q ≡ true)
    (λ q. (
      λ h. joined s acts a q ∙ elim h [ inl old ↦ or_left (lacks acts s q) _ old | inr new ↦ or_right (lacks acts s q) _ new ],
      λ h. or_cases (lacks acts s q) _ (sym (joined s acts a q) ∙ h),
    )) (lower_of uid_cmp least first) (lower_least uid_cmp_total (λ q. lacks acts s q ≡ true) (λ q. (has uid_cmp a.descendants q && lacks_it s a q) ≡ true) least first l f)

-- without actions nothing is missing
pub lacks_none : (s : Store) → IsLeastIfAny uid_cmp (λ q. lacks [] s q ≡ true) None
lacks_none s q h = by_entity (entity_at s q) h where
  by_entity : (r : Option StoredEntity) → option_map_or (λ e. is_action_type q.entity_type && not (list_all (is_ancestor_if_above e) [])) r false ≡ true → ⊥
  by_entity None h = false≢true h
  by_entity (Some e) h = false≢true ((and_parts (is_action_type q.entity_type) false h).1)

-- a walk through the entities, before the least one that lacks an ancestor
pub record IsWalk (s : Store) (least : Option EntityUID) (rest : Store) : Type 0 where
  pub sorted : IsStrictlySortedBy uid_cmp (ids_of rest)
  pub stored : AllByRecursion (λ e. entity_at s e.uid ≡ Some e) rest
  pub pending : IfSome least (λ q. has uid_cmp (ids_of rest) q ≡ true)

further : (e : StoredEntity) (es rest : Store) → AllByRecursion (λ y. uid_cmp e.uid y ≡ Less) (ids_of rest) → AllByRecursion (λ x. entity_at es x.uid ≡ Some x) rest → AllByRecursion (λ x. entity_at (e ∷ es) x.uid ≡ Some x) rest
further e es [] above stored = tt
further e es (x ∷ rest) above stored = (rw (uid_cmp_total.antisymm x.uid e.uid, above.0) stored.0, further e es rest above.1 stored.1)

all_stored : (es : Store) → IsStrictlySortedBy uid_cmp (ids_of es) → AllByRecursion (λ e. entity_at es e.uid ≡ Some e) es
all_stored [] sorted = tt
all_stored (e ∷ es) sorted = (
  rw (tied_itself uid_cmp_total e.uid) refl,
  further e es es (sorted_head uid_cmp e.uid (ids_of es) sorted) (all_stored es (sorted_tail uid_cmp e.uid (ids_of es) sorted)),
)

stands : (s : Store) (q : EntityUID) → is_some (entity_at s q) ≡ true → has uid_cmp (ids_of s) q ≡ true
stands [] q h = h
stands (e ∷ es) q h = by_test (is_named q e) h (stands es q) where
  by_test : (b : Bool) → is_some (cond b (Some e) (entity_at es q)) ≡ true → (is_some (entity_at es q) ≡ true → has uid_cmp (ids_of es) q ≡ true) → (b || has uid_cmp (ids_of es) q) ≡ true
  by_test true h later = refl
  by_test false h later = later h

lacking_stands : (acts : List ActionData) (s : Store) (q : EntityUID) → lacks acts s q ≡ true → has uid_cmp (ids_of s) q ≡ true
lacking_stands acts s q h = stands s q (by_entity (entity_at s q) h) where
  by_entity : (r : Option StoredEntity) → option_map_or (λ e. is_action_type q.entity_type && not (list_all (is_ancestor_if_above e) acts)) r false ≡ true → is_some r ≡ true
  by_entity None h = h
  by_entity (Some e) h = refl

below : (x q : EntityUID) (ys : List EntityUID) → AllByRecursion (λ y. uid_cmp x y ≡ Less) ys → has uid_cmp ys q ≡ true → uid_cmp x q ≡ Less
below x q [] all h = absurd (false≢true h)
below x q (y ∷ ys) all h = elim (or_cases (is_eq (uid_cmp q y)) (has uid_cmp ys q) h) [ inl same ↦ rw (tells_apart exact_uid q y same) all.0 | inr later ↦ below x q ys all.1 later ]

or_last : (a b : Option StoreRule) → option_or a b ≡ None → b ≡ None
or_last None b h = h
or_last (Some x) b h = absurd (cc)

not_kept : (b c : Bool) (rule : StoreRule) → not c ≡ true → unless (b && c) rule ≡ None → ⊥
not_kept false c rule h none = absurd (cc)
not_kept true false rule h none = absurd (cc)
not_kept true true rule h none = false≢true h

-- a fault of the first entity is one of the store
pub some_first : (schema : SchemaData) (e : StoredEntity) (rest : Store) → IsSome (entity_fault schema e) → IsSome (first_store_fault schema (e ∷ rest))
some_first schema e rest h = by_fault (entity_fault schema e) h where
  by_fault : (r : Option StoreRule) → IsSome r → IsSome (option_or (option_map (λ rule. (e.uid, rule)) r) (first_store_fault schema rest))
  by_fault None h = absurd (false≢true h)
  by_fault (Some rule) h = h

module _ (schema : SchemaData) (s : Store) (least : Option EntityUID) (is_least : IsLeastIfAny uid_cmp (λ q. lacks schema.action_ids s q ≡ true) least) where
  pub walk_first : IsStrictlySortedBy uid_cmp (ids_of s) → IsWalk s least s
  walk_first sorted = record { sorted = sorted; stored = all_stored s sorted; pending = at least is_least } where
    at : (r : Option EntityUID) → IsLeastIfAny uid_cmp (λ q. lacks schema.action_ids s q ≡ true) r → IfSome r (λ q. has uid_cmp (ids_of s) q ≡ true)
    at None none = tt
    at (Some q) l = lacking_stands schema.action_ids s q l.holds

  module _ (e : StoredEntity) (rest : Store) (w : IsWalk s least (e ∷ rest)) where
    here : lacks schema.action_ids s e.uid ≡ (is_action_type e.uid.entity_type && not (has_all_ancestors schema e))
    here = ap (λ r. option_map_or (λ x. is_action_type e.uid.entity_type && not (has_all_ancestors schema x)) r false) w.stored.0

    next_is : lacks schema.action_ids s e.uid ≡ true → least ≡ Some e.uid
    next_is h = at least is_least w.pending where
      at : (r : Option EntityUID) → IsLeastIfAny uid_cmp (λ q. lacks schema.action_ids s q ≡ true) r → IfSome r (λ q. has uid_cmp (ids_of (e ∷ rest)) q ≡ true) → r ≡ Some e.uid
      at None none pending = absurd (none e.uid h)
      at (Some q) l pending = elim (or_cases (is_eq (uid_cmp q e.uid)) (has uid_cmp (ids_of rest) q) pending) [
        | inl same ↦ ap Some (tells_apart exact_uid q e.uid same)
        | inr later ↦
            let less : uid_cmp e.uid q ≡ Less = below e.uid q (ids_of rest) (sorted_head uid_cmp e.uid (ids_of rest) w.sorted) later in
            let greater : is_gt (uid_cmp q e.uid) ≡ true = ap is_gt (uid_cmp_total.antisymm q e.uid ∙ ap ordering_reverse less) in
            absurd (false≢true (sym (l.least e.uid h) ∙ greater))
      ]

    -- the test by the least id says whether an ancestor is missing in the entity of an action
    pub known : (r : Bool) → IsTrue r ↔ (least ≡ Some e.uid) → IsTrue (is_action_type e.uid.entity_type) → r ≡ not (has_all_ancestors schema e)
    known r is act = both_ways r (lacks schema.action_ids s e.uid) (λ t. holds (is.0 t)) (λ h. is.1 (next_is h)) ∙ here ∙ ap (λ t. t && not (has_all_ancestors schema e)) act where
      holds : least ≡ Some e.uid → lacks schema.action_ids s e.uid ≡ true
      holds same = let l : IsLeastIfAny uid_cmp (λ q. lacks schema.action_ids s q ≡ true) (Some e.uid) = subst (IsLeastIfAny uid_cmp (λ q. lacks schema.action_ids s q ≡ true)) same is_least in l.holds

    faulty : lacks schema.action_ids s e.uid ≡ true → entity_fault schema e ≡ None → ⊥
    faulty h none =
        let parts = and_parts (is_action_type e.uid.entity_type) (not (has_all_ancestors schema e)) (sym here ∙ h) in
        let acts : action_entity_fault schema e ≡ None = rw parts.0 at none in
        let last = or_last (option_map (λ _. ActionHasTags) (first_key e.tags)) _ (or_last (option_map (λ _. ActionHasAttributes) (first_key e.attrs)) _ (or_last (unless (is_some (action_at schema e.uid)) ActionNotDeclared) _ acts)) in
        not_kept (list_all (action_below schema e.uid) e.ancestors) (has_all_ancestors schema e) ActionAncestorsDiffer parts.1 last

    -- behind an entity without a fault
    pub walk_more : entity_fault schema e ≡ None → IsWalk s least rest
    walk_more none = record {
      sorted = sorted_tail uid_cmp e.uid (ids_of rest) w.sorted;
      stored = w.stored.1;
      pending = at least is_least w.pending;
    } where
      at : (r : Option EntityUID) → IsLeastIfAny uid_cmp (λ q. lacks schema.action_ids s q ≡ true) r → IfSome r (λ q. has uid_cmp (ids_of (e ∷ rest)) q ≡ true) → IfSome r (λ q. has uid_cmp (ids_of rest) q ≡ true)
      at None l pending = tt
      at (Some q) l pending = elim (or_cases (is_eq (uid_cmp q e.uid)) (has uid_cmp (ids_of rest) q) pending) [
        | inl same ↦ absurd (faulty (rw (tells_apart exact_uid q e.uid same) at l.holds) none)
        | inr later ↦ later
      ]
