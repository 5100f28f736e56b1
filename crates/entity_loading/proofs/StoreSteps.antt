-- Steps of making the store of what is kept.
use Rattle.std.proofs.Common.{◌≡◌, ◌<◌, length, map, arith, Bool, true, false, cond, List, [], ◌∷◌, ◌++◌, Option, Some, None, refl, sym, ap, ◌∙◌, subst, append_assoc}
use Rattle.std.specs.BTreeMap.{BTreeMap, get, is_at}
use Rattle.std.specs.List.{AllByRecursion}
use Rattle.std.specs.List.Sorted.{IsStrictlySortedBy}
use Rattle.std.specs.Map.{keys_of, values_of, lookup}
use Rattle.std.specs.Ordering.{ordering_reverse}
use Rattle.std.specs.declared.cmp.Ordering.TheVariants.{Less}
use Rattle.policy_values.specs.declared.entity_uid.EntityUID.{EntityUID}
use Rattle.policy_values.specs.Uid.{uid_cmp, uid_eq, uid_cmp_total}
use Rattle.entity_store.specs.Ascending.{IsAbove}
use Rattle.entity_store.specs.Store.{StoredEntity, Store, entity_at}
use Rattle.reads_spec.proofs.Lists.{same_uid, uid_self}
use Rattle.plain_lemmas.proofs.Booleans.{equal_by_both_ways}
use Rattle.entity_loading.specs.Answering.{AreUnderIds}

abbrev or_else : Option StoredEntity → Option StoredEntity → Option StoredEntity
or_else (Some e) o = Some e
or_else None o = o

or_else_more : (a b c : Option StoredEntity) → or_else (or_else a b) c ≡ or_else a (or_else b c)
or_else_more (Some e) b c = refl
or_else_more None b c = refl

or_else_none : (a : Option StoredEntity) → or_else a None ≡ a
or_else_none (Some e) = refl
or_else_none None = refl

found_pushed : (store : Store) (e : StoredEntity) (x : EntityUID) → entity_at (store ++ e ∷ []) x ≡ or_else (entity_at store x) (cond (uid_eq x e.uid) (Some e) None)
found_pushed [] e x = refl
found_pushed (d ∷ store) e x = by (uid_eq x d.uid) (found_pushed store e x)
  where
    by : (b : Bool) → entity_at (store ++ e ∷ []) x ≡ or_else (entity_at store x) (cond (uid_eq x e.uid) (Some e) None) → cond b (Some d) (entity_at (store ++ e ∷ []) x) ≡ or_else (cond b (Some d) (entity_at store x)) (cond (uid_eq x e.uid) (Some e) None)
    by true ih = refl
    by false ih = ih

pub turned : (x y : EntityUID) → uid_eq x y ≡ uid_eq y x
turned x y = equal_by_both_ways (uid_eq x y) (uid_eq y x) (λ h. subst (λ z. uid_eq z x ≡ true) (same_uid x y h) (uid_self x)) (λ h. subst (λ z. uid_eq z y ≡ true) (same_uid y x h) (uid_self y))

-- the store has what is kept no more, and all its ids come before those that are kept
pub record IsFilling (all kept : BTreeMap EntityUID StoredEntity) (store : Store) : Type 0 where
  pub so_far : store ++ values_of kept.entries ≡ values_of all.entries
  pub ids : AreUnderIds kept
  pub at_id : (x : EntityUID) → or_else (entity_at store x) (get uid_cmp kept x) ≡ get uid_cmp all x
  pub above : AllByRecursion (λ k. IsAbove k store) (keys_of kept.entries)
  pub ascending : IsStrictlySortedBy uid_cmp (map (λ e. e.uid) store)

all_above_none : (ks : List EntityUID) → AllByRecursion (λ k. IsAbove k []) ks
all_above_none [] = tt
all_above_none (k ∷ ks) = (tt, all_above_none ks)

sorted_none : IsStrictlySortedBy uid_cmp []
unfolding IsStrictlySortedBy
sorted_none = tt

pub filling_start : (all : BTreeMap EntityUID StoredEntity) (store : Store) → store ≡ [] → AreUnderIds all → IsFilling all all store
filling_start all store e ids = rw e (record { so_far = refl; ids = ids; at_id = λ x. refl; above = all_above_none (keys_of all.entries); ascending = sorted_none })

above_end : (u : EntityUID) (kept : Store) (x : StoredEntity) → IsAbove u kept → uid_cmp x.uid u ≡ Less → IsAbove u (kept ++ x ∷ [])
above_end u [] x h k = (uid_cmp_total.antisymm u x.uid ∙ ap ordering_reverse k, tt)
above_end u (e ∷ kept) x h k = (h.0, above_end u kept x h.1 k)

ids_end : (u : EntityUID) (store : Store) (x : StoredEntity) → AllByRecursion (λ y. uid_cmp u y ≡ Less) (map (λ e. e.uid) store) → uid_cmp u x.uid ≡ Less → AllByRecursion (λ y. uid_cmp u y ≡ Less) (map (λ e. e.uid) (store ++ x ∷ []))
ids_end u [] x h k = (k, tt)
ids_end u (e ∷ store) x h k = (h.0, ids_end u store x h.1 k)

ascends_more : (store : Store) (x : StoredEntity) → IsAbove x.uid store → IsStrictlySortedBy uid_cmp (map (λ e. e.uid) store) → IsStrictlySortedBy uid_cmp (map (λ e. e.uid) (store ++ x ∷ []))
unfolding IsStrictlySortedBy
ascends_more [] x a h = (tt, tt)
ascends_more (e ∷ store) x a h = (ids_end e.uid store x h.0 (uid_cmp_total.antisymm e.uid x.uid ∙ ap ordering_reverse a.0), ascends_more store x a.1 h.1)

above_more : (store : Store) (ks : List EntityUID) (x : StoredEntity) → AllByRecursion (λ k. IsAbove k store) ks → AllByRecursion (λ k. uid_cmp x.uid k ≡ Less) ks → AllByRecursion (λ k. IsAbove k (store ++ x ∷ [])) ks
above_more store [] x h k = tt
above_more store (u ∷ ks) x h k = (above_end u store x h.0 k.0, above_more store ks x h.1 k.1)

module _ (all kept rest : BTreeMap EntityUID StoredEntity) (store : Store) (t : IsFilling all kept store) (k : EntityUID) (e : StoredEntity) (first : kept.entries ≡ (k, e) ∷ rest.entries) (at_k : get uid_cmp kept k ≡ Some e) where
  is : e.uid ≡ k
  is = t.ids k e at_k

  both : AllByRecursion (λ u. IsAbove u store) (k ∷ keys_of rest.entries)
  both = subst (λ es. AllByRecursion (λ u. IsAbove u store) (keys_of es)) first t.above

  pub next_above : IsAbove e.uid store
  next_above = subst (λ u. IsAbove u store) (sym is) both.0

  pub filling_more : (new : Store) → new ≡ store ++ e ∷ [] → AllByRecursion (λ u. uid_cmp k u ≡ Less) (keys_of rest.entries) → ((q : EntityUID) → get uid_cmp rest q ≡ cond (uid_eq k q) None (get uid_cmp kept q)) → IsFilling all rest new
  filling_more new pushed later out = rw pushed (record {
    so_far = append_assoc store (e ∷ []) (values_of rest.entries) ∙ ap (λ es. store ++ values_of es) (sym first) ∙ t.so_far;
    ids = λ x d h. left x d (uid_eq k x) refl h;
    at_id = λ x. placed x (uid_eq k x) refl;
    above = above_more store (keys_of rest.entries) e both.1 (subst (λ z. AllByRecursion (λ u. uid_cmp z u ≡ Less) (keys_of rest.entries)) (sym is) later);
    ascending = ascends_more store e next_above t.ascending;
  })
    where
      placed : (x : EntityUID) (b : Bool) → uid_eq k x ≡ b → or_else (entity_at (store ++ e ∷ []) x) (get uid_cmp rest x) ≡ get uid_cmp all x
      placed x b f =
          let same : uid_eq x e.uid ≡ b = ap (uid_eq x) is ∙ turned x k ∙ f in
          ap (λ o. or_else o (get uid_cmp rest x)) (found_pushed store e x) ∙ or_else_more (entity_at store x) (cond (uid_eq x e.uid) (Some e) None) (get uid_cmp rest x)
          ∙ ap (or_else (entity_at store x)) ((λ i. or_else (cond (same i) (Some e) None) ((out x ∙ ap (λ c. cond c None (get uid_cmp kept x)) f) i)) ∙ here b f) ∙ t.at_id x
        where
          here : (c : Bool) → uid_eq k x ≡ c → or_else (cond c (Some e) None) (cond c None (get uid_cmp kept x)) ≡ get uid_cmp kept x
          here true g = sym at_k ∙ ap (get uid_cmp kept) (same_uid k x g)
          here false g = refl

      left : (x : EntityUID) (d : StoredEntity) (b : Bool) → uid_eq k x ≡ b → get uid_cmp rest x ≡ Some d → d.uid ≡ x
      left x d true f g = let none = out x ∙ ap (λ c. cond c None (get uid_cmp kept x)) f in absurd (cc (none, g))
      left x d false f g = t.ids x d (sym (out x ∙ ap (λ c. cond c None (get uid_cmp kept x)) f) ∙ g)

nil_right : (xs : Store) → xs ++ [] ≡ xs
nil_right [] = refl
nil_right (x ∷ xs) = ap (λ ys. x ∷ ys) (nil_right xs)

pub filling_done : (all kept : BTreeMap EntityUID StoredEntity) (store : Store) → kept.entries ≡ [] → IsFilling all kept store → store ≡ values_of all.entries
filling_done all kept store none t = sym (nil_right store) ∙ ap (λ es. store ++ values_of es) (sym none) ∙ t.so_far

pub none_long : (m : BTreeMap EntityUID StoredEntity) → (0 < length m.entries → ⊥) → length m.entries ≡ 0
none_long m h = by m.entries h
  where
    by : (es : List (EntityUID × StoredEntity)) → (0 < length es → ⊥) → length es ≡ 0
    by [] k = refl
    by (e ∷ es) k = absurd (k (omega arith))

pub found_in : (all kept : BTreeMap EntityUID StoredEntity) (store : Store) → kept.entries ≡ [] → IsFilling all kept store → (x : EntityUID) → entity_at store x ≡ get uid_cmp all x
found_in all kept store none t x = sym (or_else_none (entity_at store x)) ∙ ap (λ es. or_else (entity_at store x) (lookup (is_at (uid_cmp x)) es)) (sym none) ∙ t.at_id x
