-- The store of a sample: its users by their ids, each in its group alone.
use Rattle.std.proofs.Common.{◌≡◌, ◌↔◌, ◌<◌, ◌≤◌, ◌^◌, ◌+◌, ℕ, zero, suc, Bool, true, false, true≢false, nat_eq, ◌&&◌, cond, List, [], ◌∷◌, length, drop, get_or, map, Some, refl, sym, ap, subst, ◌∙◌, arith, Contains}
use Rattle.std.specs.Prelude.{T, IsSomeAnd, option_map}
use Rattle.std.specs.List.{AllByRecursion, range_with_len}
use Rattle.std.specs.List.Sorted.{IsStrictlySortedBy}
use Rattle.std.specs.Ordering.{is_eq, is_lt}
use Rattle.std.specs.declared.cmp.Ordering.{Ordering}
use Rattle.std.specs.declared.cmp.Ordering.TheVariants.{Less, Equal, Greater}
use Rattle.std.specs.FinMap.Entries.{by_order, put, find, below_all, is_sorted, is_sorted-put, find-put}
use Rattle.std.proofs.lemmas.Fmt.{decimal_injective}
use Rattle.std.proofs.lemmas.List.{length-take-le, get_or-take}
use Rattle.std.proofs.lemmas.List.Elements.{All-from_recursion}
use Rattle.std.proofs.lemmas.List.FromFn.{get_or-map-range_with_len, length-map-range_with_len}
use Rattle.std.proofs.lemmas.Map.Views.{tells_apart}
use Rattle.std.proofs.lemmas.Option.{slice_get_within, get_or_from_slice_get}
use Rattle.policy_values.proofs.Reaches.{Reaches-ends}
use Rattle.policy_values.specs.Reaches.{Reaches, last, more}
use Rattle.policy_values.specs.Repeated.{IsRepeated}
use Rattle.policy_values.specs.Uid.{uid_cmp, uid_cmp_total, exact_uid}
use Rattle.policy_values.specs.declared.entity_uid.EntityUID.{EntityUID}
use Rattle.entity_store.specs.FromParents.{IsFromParents, Lists, ids_of, without_links}
use Rattle.entity_store.specs.Store.{StoredEntity, Store, entity_at}
use Rattle.typing_spec.specs.Conforms.{EntityConforms, StoreConforms}
use Rattle.document_laws.proofs.Drawn.{Drawn, users_from}
use Rattle.document_laws.proofs.SampleParts.{group, user, user_id, user_entity, user_conforms, schema_of_sample}

abbrev Placed : Type 0
Placed = EntityUID × StoredEntity

abbrev placed : List StoredEntity → List Placed
placed [] = []
placed (e ∷ es) = put uid_cmp e.uid e (placed es)

-- entities by their ids
abbrev pub stored : List StoredEntity → Store
stored es = map (λ p. p.1) (placed es)

-- each stands at its own id, and Q holds of it
abbrev Holds : (StoredEntity → Type 0) → List Placed → Type 0
Holds Q ps = AllByRecursion (λ p. (p.1.uid ≡ p.0) × Q p.1) ps

module _ (Q : StoredEntity → Type 0) where
  put_holds : (e : StoredEntity) → Q e → (ps : List Placed) → Holds Q ps → Holds Q (put uid_cmp e.uid e ps)
  put_holds e q [] h = ((refl, q), tt)
  put_holds e q (p ∷ ps) h = by (uid_cmp e.uid p.0) refl (put_holds e q ps h.1) where
    by : (o : Ordering) → uid_cmp e.uid p.0 ≡ o → Holds Q (put uid_cmp e.uid e ps) → Holds Q (by_order o ((e.uid, e) ∷ p ∷ ps) ((p.0, e) ∷ ps) (p ∷ put uid_cmp e.uid e ps))
    by Less is later = ((refl, q), h)
    by Equal is later = ((exact_uid e.uid p.0 is, q), h.1)
    by Greater is later = (h.0, later)

  placed_hold : (es : List StoredEntity) → AllByRecursion Q es → Holds Q (placed es)
  placed_hold [] h = tt
  placed_hold (e ∷ es) h = put_holds e h.0 (placed es) (placed_hold es h.1)

  all_of : (ps : List Placed) → Holds Q ps → AllByRecursion Q (map (λ p. p.1) ps)
  all_of [] h = tt
  all_of (p ∷ ps) h = (h.0.1, all_of ps h.1)

  found : (q : EntityUID) (ps : List Placed) → Holds Q ps → entity_at (map (λ p. p.1) ps) q ≡ find uid_cmp q ps
  found q [] h = refl
  found q (p ∷ ps) h = λ i. cond (is_eq (uid_cmp q (h.0.0 i))) (Some p.1) (found q ps h.1 i)

  parts : (a b : Bool) → T (a && b) → T a × T b
  parts true b h = (tt, h)
  parts false b h = absurd h

  less_of : (o : Ordering) → T (is_lt o) → o ≡ Less
  less_of Less h = refl
  less_of Equal h = absurd h
  less_of Greater h = absurd h

  below : (x : EntityUID) (ps : List Placed) → Holds Q ps → T (below_all uid_cmp x ps) → AllByRecursion (λ y. uid_cmp x y ≡ Less) (ids_of (map (λ p. p.1) ps))
  below x [] h t = tt
  below x (p ∷ ps) h t =
      let both = parts (is_lt (uid_cmp x p.0)) (below_all uid_cmp x ps) t in
      (subst (λ u. uid_cmp x u ≡ Less) (sym h.0.0) (less_of (uid_cmp x p.0) both.0), below x ps h.1 both.1)

  ascending : (ps : List Placed) → Holds Q ps → T (is_sorted uid_cmp ps) → IsStrictlySortedBy uid_cmp (ids_of (map (λ p. p.1) ps))
  unfolding IsStrictlySortedBy
  ascending [] h t = tt
  ascending (p ∷ ps) h t =
      let both = parts (below_all uid_cmp p.0 ps) (is_sorted uid_cmp ps) t in
      (subst (λ u. AllByRecursion (λ y. uid_cmp u y ≡ Less) (ids_of (map (λ p. p.1) ps))) (sym h.0.0) (below p.0 ps h.1 both.0), ascending ps h.1 both.1)

placed_sorted : (es : List StoredEntity) → T (is_sorted uid_cmp (placed es))
placed_sorted [] = tt
placed_sorted (e ∷ es) = is_sorted-put uid_cmp uid_cmp_total e.uid e (placed es) (placed_sorted es)

looked_up : (q : EntityUID) (es : List StoredEntity) → find uid_cmp q (placed es) ≡ entity_at es q
looked_up q [] = refl
looked_up q (e ∷ es) = find-put uid_cmp uid_cmp_total q e.uid e (placed es) ∙ ap (cond (is_eq (uid_cmp q e.uid)) (Some e)) (looked_up q es)

-- ---- ids, and what a user lists

abbrev Single : StoredEntity → Type 0
Single e = IsStrictlySortedBy uid_cmp e.ancestors

all_single : (us : List Drawn) → AllByRecursion Single (map user_entity us)
unfolding IsStrictlySortedBy
all_single [] = tt
all_single (u ∷ us) = ((tt, tt), all_single us)

all_conform : (us : List Drawn) → AllByRecursion (EntityConforms schema_of_sample) (map user_entity us)
all_conform [] = tt
all_conform (u ∷ us) = (user_conforms u, all_conform us)

ids_are : (seed size a n : ℕ) → ids_of (map user_entity (users_from seed size a n)) ≡ map user_id (range_with_len a n)
ids_are seed size a zero = refl
ids_are seed size a (suc n) = ap (λ us. user_id a ∷ us) (ids_are seed size (a + 1) n)

once : (n : ℕ) → n ≤ 2 ^ 64 → (k : EntityUID) → IsRepeated (map user_id (range_with_len 0 n)) k → ⊥
once n small k (i, at_i, (j, in_prefix, at_j)) =
    let ids : List EntityUID = map user_id (range_with_len 0 n) in
    let size : length ids ≡ n = length-map-range_with_len user_id 0 n in
    let within : i < length ids = slice_get_within ids i k at_i in
    let before : j < i = omega (arith, length-take-le i ids (omega arith)) in
    let first : user_id j ≡ k = sym (get_or-map-range_with_len user_id 0 n j j k (omega arith) (omega arith)) ∙ sym (get_or-take i ids j k before) ∙ at_j in
    let second : user_id i ≡ k = sym (get_or-map-range_with_len user_id 0 n i i k (omega arith) (omega arith)) ∙ get_or_from_slice_get ids i k k at_i in
    let same : j ≡ i = decimal_injective j i (omega arith) (omega arith) (ap (λ u. drop 1 u.eid) (first ∙ sym second)) in
    omega arith

abbrev Steps : EntityUID → EntityUID → Type 0
Steps x y = (x.entity_type ≡ user) × (y.entity_type ≡ group)

only : (g y : EntityUID) → Contains (g ∷ []) y → g ≡ y
only g y (zero, h, at) = at
only g y (suc k, h, at) = absurd (omega arith)

steps : (us : List Drawn) (x y : EntityUID) → Lists (map user_entity us) x y → Steps x y
steps [] x y h = absurd h
steps (u ∷ us) x y h = by (is_eq (uid_cmp x (user_id u.number))) refl (steps us x y) h where
  by : (b : Bool) → is_eq (uid_cmp x (user_id u.number)) ≡ b → (Lists (map user_entity us) x y → Steps x y) → IsSomeAnd (cond b (Some (user_entity u)) (entity_at (map user_entity us) x)) (λ e. Contains e.ancestors y) → Steps x y
  by true is later there = (ap (λ v. v.entity_type) (tells_apart exact_uid x (user_id u.number) is), sym (ap (λ v. v.entity_type) (only _ y there)))
  by false is later there = later there

pub apart : user ≡ group → ⊥
apart e = true≢false (ap (λ t. nat_eq (get_or t 0 0) 85) e)

module _ (us : List Drawn) where
  first_step : {x y : EntityUID} → Reaches (Lists (map user_entity us)) x y → x.entity_type ≡ user
  first_step {x = x} {y = y} (last s) = (steps us x y s).0
  first_step {x = x} {y = z} (more {y = y} s r) = (steps us x y s).0

  last_step : {x y : EntityUID} → Reaches (Lists (map user_entity us)) x y → y.entity_type ≡ group
  last_step r = Reaches-ends (λ y. y.entity_type ≡ group) (λ x y s. (steps us x y s).1) r

  one_step : {x y : EntityUID} → Reaches (Lists (map user_entity us)) x y → Lists (map user_entity us) x y
  one_step (last s) = s
  one_step {x = x} {y = z} (more {y = y} s r) = absurd (apart (sym (first_step r) ∙ (steps us x y s).1))

  same : (q : EntityUID) → entity_at (stored (map user_entity us)) q ≡ entity_at (map user_entity us) q
  same q = found Single q (placed (map user_entity us)) (placed_hold Single (map user_entity us) (all_single us)) ∙ looked_up q (map user_entity us)

  lists_same : (x y : EntityUID) → Lists (stored (map user_entity us)) x y ↔ Reaches (Lists (map user_entity us)) x y
  lists_same x y = (
    λ h. last (subst (λ o. IsSomeAnd o (λ e. Contains e.ancestors y)) (same x) h),
    λ r. subst (λ o. IsSomeAnd o (λ e. Contains e.ancestors y)) (sym (same x)) (one_step r),
  )

  pub store_conforms : StoreConforms schema_of_sample (stored (map user_entity us))
  store_conforms =
      let each : StoredEntity → Type 0 = EntityConforms schema_of_sample in
      all_of each (placed (map user_entity us)) (placed_hold each (map user_entity us) (all_conform us))

pub store_made : (seed size n : ℕ) → n ≤ 2 ^ 64 → IsFromParents (map user_entity (users_from seed size 0 n)) (stored (map user_entity (users_from seed size 0 n)))
store_made seed size n small =
    let us : List Drawn = users_from seed size 0 n in
    let es : List StoredEntity = map user_entity us in
    let hold = placed_hold Single es (all_single us) in
    record {
      once = λ k r. once n small k (subst (λ ids. IsRepeated ids k) (ids_are seed size 0 n) r);
      no_cycle = λ k r. apart (sym (first_step us r) ∙ last_step us r);
      ordered = ascending Single (placed es) hold (placed_sorted es);
      kept = λ k. ap (λ o. option_map without_links o) (same us k);
      ancestors = lists_same us;
      ascending = All-from_recursion Single (stored es) (all_of Single (placed es) hold);
    }
