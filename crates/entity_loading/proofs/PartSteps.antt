-- How the parts are made, one after another.
use Rattle.std.proofs.Common.{◌≡◌, ℕ, Bool, true, false, cond, List, [], ◌∷◌, ◌++◌, map, Option, Some, None, ◌⊎◌, inl, inr, is_some, refl, sym, ap, ◌∙◌, subst, append_assoc}
use Rattle.std.specs.Prelude.{◌↔◌, filter}
use Rattle.std.specs.List.{AllByRecursion}
use Rattle.std.specs.List.Sorted.{IsStrictlySortedBy}
use Rattle.std.specs.Option.{option_map_or}
use Rattle.std.proofs.lemmas.Bool.{false≢true}
use Rattle.std.proofs.lemmas.Map.Lookups.{exact_unsigned}
use Rattle.std.specs.Ordering.{is_eq, nat_cmp, ordering_reverse}
use Rattle.std.specs.declared.cmp.Ordering.TheVariants.{Less}
use Rattle.std.specs.Map.{lookup, values_of}
use Rattle.std.specs.BTreeMap.{BTreeMap, IsOrdered, get, is_at, values, insert_entry}
use Rattle.std.specs.BTreeSet.{BTreeSet, contains}
use Rattle.std.specs.declared.vec.Vec.{Vec}
use Rattle.std.specs.declared.alloc.Global.{Global}
use Rattle.policy_values.specs.Keyed.{AreAtTheirKeys, with_value}
use Rattle.policy_values.proofs.Keyed.{value_found, value_put, own_put}
use Rattle.policy_values.specs.declared.entity_uid.EntityUID.{EntityUID}
use Rattle.policy_values.specs.Uid.{uid_cmp, uid_cmp_total, exact_uid}
use Rattle.policy_values.specs.Ties.{equal_of}
use Rattle.entity_store.specs.declared.request.Request.{Request}
use Rattle.entity_store.specs.Store.{StoredEntity, Store, entity_at}
use Rattle.entity_store.specs.Ascending.{IsAbove}
use Rattle.access_tries.specs.Table.{Table}
use Rattle.reads_spec.specs.Restrict.{Keep, cut_entity, part}
use Rattle.reads_spec.proofs.Lists.{IsIn}
use Rattle.plain_lemmas.proofs.Lists.{append_empty}
use Rattle.entity_loading.specs.Names.{IsKept, IsNamed}
use Rattle.entity_loading.specs.declared.place.Place.{Place}
use Rattle.entity_loading.specs.Places.{node_of}
use Rattle.entity_loader.specs.Asked.{asked_by}
use Rattle.entity_loading.specs.Kept.{Numbers, NamedIds, numbers_at, along_nodes, names, some_names, with_names, AreNodes, AreNamed}

-- the entities `made` were made of those before `left`, of all
pub record IsParting (k : Keep) (made left all : Store) : Type 0 where
  pub so_far : made ++ part k left ≡ part k all
  pub ascending : IsStrictlySortedBy uid_cmp (map (λ e. e.uid) left)
  pub above : AllByRecursion (λ e. IsAbove e.uid made) left

above_end : (u : EntityUID) (made : Store) (x : StoredEntity) → IsAbove u made → uid_cmp x.uid u ≡ Less → IsAbove u (made ++ x ∷ [])
above_end u [] x h k = (uid_cmp_total.antisymm u x.uid ∙ ap ordering_reverse k, tt)
above_end u (e ∷ made) x h k = (h.0, above_end u made x h.1 k)

above_more : (made left : Store) (x : StoredEntity) → AllByRecursion (λ e. IsAbove e.uid made) left → AllByRecursion (λ u. uid_cmp x.uid u ≡ Less) (map (λ e. e.uid) left) → AllByRecursion (λ e. IsAbove e.uid (made ++ x ∷ [])) left
above_more made [] x h k = tt
above_more made (e ∷ left) x h k = (above_end e.uid made x h.0 k.0, above_more made left x h.1 k.1)

above_none : (s : Store) → AllByRecursion (λ e. IsAbove e.uid []) s
above_none [] = tt
above_none (e ∷ es) = (tt, above_none es)

pub parting_start : (k : Keep) (s : Store) → IsStrictlySortedBy uid_cmp (map (λ e. e.uid) s) → IsParting k [] s s
parting_start k s up = record { so_far = refl; ascending = up; above = above_none s }

module _ (k : Keep) (made : Store) (e : StoredEntity) (it left all : Store) (is : it ≡ e ∷ left) (t : IsParting k made it all) where
  pub next_above : IsAbove e.uid made
  next_above = (subst (λ l. AllByRecursion (λ d. IsAbove d.uid made) l) is t.above).0

  pub parting_more : (now : Store) (x : StoredEntity) → k.chains e.uid [] ≡ true → x ≡ cut_entity k e → now ≡ made ++ x ∷ [] → IsParting k now left all
  unfolding IsStrictlySortedBy
  parting_more now x chosen cut pushed = rw (pushed, cut) (record {
    so_far = append_assoc made (cut_entity k e ∷ []) (part k left) ∙ (rw (is, chosen) at t.so_far);
    ascending = (rw is at t.ascending).1;
    above = above_more made left (cut_entity k e) (rw is at t.above).1 (rw is at t.ascending).0;
  })

  pub parting_skip : k.chains e.uid [] ≡ false → IsParting k made left all
  unfolding IsStrictlySortedBy
  parting_skip none = record { so_far = rw (is, none) at t.so_far; ascending = (rw is at t.ascending).1; above = (rw is at t.above).1 }

pub parting_done : (k : Keep) (made left all : Store) → left ≡ [] → IsParting k made left all → made ≡ part k all
parting_done k made left all none t = sym (append_empty made) ∙ ap (λ l. made ++ part k l) (sym none) ∙ t.so_far

-- ---- in a map

pub record IsKeeping (k : Keep) (kept : BTreeMap EntityUID StoredEntity) (left all : Store) : Type 0 where
  pub keyed : AreAtTheirKeys uid_cmp (λ e. e.uid) kept
  pub parting : IsParting k (values kept) left all

at_end : (x : StoredEntity) (vs : Store) → IsAbove x.uid vs → with_value uid_cmp (λ e. e.uid) x vs ≡ vs ++ x ∷ []
at_end x [] above = refl
at_end x (v ∷ vs) above = rw above.0 (ap (λ r. v ∷ r) (at_end x vs above.1))

pub keeping_start : (k : Keep) (kept : BTreeMap EntityUID StoredEntity) (s : Store) → kept.entries ≡ [] → IsOrdered uid_cmp kept → IsStrictlySortedBy uid_cmp (map (λ e. e.uid) s) → IsKeeping k kept s s
keeping_start k kept s none ordered up = record {
  keyed = record { ordered = ordered; own = subst (λ es. AllByRecursion (λ p. p.1.uid ≡ p.0) es) (sym none) tt };
  parting = subst (λ es. IsParting k (values_of es) s s) (sym none) (parting_start k s up);
}

module _ (k : Keep) (kept : BTreeMap EntityUID StoredEntity) (e : StoredEntity) (it left all : Store) (is : it ≡ e ∷ left) (t : IsKeeping k kept it all) where
  pub keeping_more : (now : BTreeMap EntityUID StoredEntity) (x : StoredEntity) → k.chains e.uid [] ≡ true → x ≡ cut_entity k e → now.entries ≡ insert_entry uid_cmp kept.entries x.uid x → IsOrdered uid_cmp now → IsKeeping k now left all
  keeping_more now x chosen cut put ordered =
      let above : IsAbove x.uid (values kept) = subst (λ y. IsAbove y.uid (values kept)) (sym cut) (next_above k (values kept) e it left all is t.parting) in
      let pushed : values now ≡ values kept ++ x ∷ [] = ap values_of put ∙ value_put uid_cmp (λ d. d.uid) kept t.keyed x ∙ at_end x (values kept) above in
      record {
        keyed = record { ordered = ordered; own = rw put (own_put uid_cmp (λ d. d.uid) exact_uid x kept.entries t.keyed.own) };
        parting = parting_more k (values kept) e it left all is t.parting (values now) x chosen cut pushed;
      }

  pub keeping_skip : k.chains e.uid [] ≡ false → IsKeeping k kept left all
  keeping_skip none = record { keyed = t.keyed; parting = parting_skip k (values kept) e it left all is t.parting none }

pub keeping_done : (k : Keep) (kept : BTreeMap EntityUID StoredEntity) (left all : Store) → left ≡ [] → IsKeeping k kept left all → IsKept kept (part k all)
keeping_done k kept left all none t x = sym (value_found uid_cmp (λ e. e.uid) kept t.keyed x ∙ ap (λ s. entity_at s x) (parting_done k (values kept) left all none t.parting))

-- ---- one entity

module _ (ns : Table) (m : Numbers) (e : StoredEntity) where
  pub chosen : AreNodes ns m → (v : Vec ℕ Global) → get uid_cmp m e.uid ≡ Some v → (along_nodes ns m).chains e.uid [] ≡ true
  chosen there v at = sym (there e.uid) ∙ ap (λ (o : Option (Vec ℕ Global)). is_some o) at

  pub not_chosen : AreNodes ns m → get uid_cmp m e.uid ≡ None → (along_nodes ns m).chains e.uid [] ≡ false
  not_chosen there at = sym (there e.uid) ∙ ap (λ (o : Option (Vec ℕ Global)). is_some o) at

  none_passes : (ys : List EntityUID) → filter (λ y. false) ys ≡ []
  none_passes [] = refl
  none_passes (y ∷ ys) = none_passes ys

  numbers_are : (v : Vec ℕ Global) → get uid_cmp m e.uid ≡ Some v → v.items ≡ numbers_at m e.uid
  numbers_are v at = sym (ap (λ (o : Option (Vec ℕ Global)). option_map_or (λ w. w.items) o []) at)

  pub bare_cut : (v : Vec ℕ Global) → get uid_cmp m e.uid ≡ Some v → (ids : List EntityUID) → ids ≡ [] → record (cut_entity (asked_by ns v.items) e) { ancestors = ids } ≡ cut_entity (along_nodes ns m) e
  bare_cut v at ids none =
      (λ i. record (cut_entity (asked_by ns (numbers_are v at i)) e) { ancestors = none i })
      ∙ (λ i. record (cut_entity (along_nodes ns m) e) { ancestors = sym (none_passes e.ancestors) i })

  pub named_cut : (sets : NamedIds) (v : Vec ℕ Global) → get uid_cmp m e.uid ≡ Some v → (ids : List EntityUID) → ids ≡ filter (some_names sets v.items) e.ancestors → record (cut_entity (asked_by ns v.items) e) { ancestors = ids } ≡ cut_entity (with_names ns m sets) e
  named_cut sets v at ids are =
      (λ i. record (cut_entity (asked_by ns v.items) e) { ancestors = are i })
      ∙ (λ i. record (cut_entity (asked_by ns (numbers_are v at i)) e) { ancestors = filter (some_names sets (numbers_are v at i)) e.ancestors })

-- ---- names at places

-- the ids of numbers are right, and there for each place but those that are left
pub record IsNaming (ns : Table) (q : Request) (kept : BTreeMap EntityUID StoredEntity) (left all : List Place) (m : NamedIds) : Type 0 where
  pub right : (s : Store) → IsKept kept s → (i : ℕ) → is_some (get nat_cmp m i) ≡ true → (y : EntityUID) → (names m i y ≡ true) ↔ IsNamed (record { nodes = ns; number = i }) q s y
  pub rest : (p : Place) → IsIn p all → IsIn p left ⊎ (is_some (get nat_cmp m p.number) ≡ true)

pub naming_start : (ns : Table) (q : Request) (kept : BTreeMap EntityUID StoredEntity) (all : List Place) (m : NamedIds) → m.entries ≡ [] → IsNaming ns q kept all all m
naming_start ns q kept all m none = record {
  right = λ s k i there y. absurd (false≢true (sym (ap (λ es. is_some (lookup (is_at (nat_cmp i)) es)) none) ∙ there));
  rest = λ p h. inl h;
}

module _ (ns : Table) (q : Request) (kept : BTreeMap EntityUID StoredEntity) (it left all : List Place) (p : Place) (m : NamedIds) (is : it ≡ p ∷ left) (t : IsNaming ns q kept it all m) where
  pub naming_skip : is_some (get nat_cmp m p.number) ≡ true → IsNaming ns q kept left all m
  naming_skip there = record { right = t.right; rest = λ r h. by r (t.rest r h) }
    where
      first : (r : Place) → IsIn r (p ∷ left) → IsIn r left ⊎ (is_some (get nat_cmp m r.number) ≡ true)
      first r (inl same) = inr (subst (λ (z : Place). is_some (get nat_cmp m z.number) ≡ true) same there)
      first r (inr i) = inl i

      by : (r : Place) → IsIn r it ⊎ (is_some (get nat_cmp m r.number) ≡ true) → IsIn r left ⊎ (is_some (get nat_cmp m r.number) ≡ true)
      by r (inl i) = first r (subst (IsIn r) is i)
      by r (inr h) = inr h

  module _ (now : NamedIds) (ids : BTreeSet EntityUID) (put : (i : ℕ) → get nat_cmp now i ≡ cond (is_eq (nat_cmp p.number i)) (Some ids) (get nat_cmp m i)) (here : get nat_cmp now p.number ≡ Some ids)
      (named : (s : Store) → IsKept kept s → (y : EntityUID) → (contains uid_cmp ids y ≡ true) ↔ IsNamed (node_of ns p) q s y) where
    abbrev AreRight : Store → ℕ → EntityUID → Option (BTreeSet EntityUID) → Type 0
    AreRight s i y o = (option_map_or (λ b. contains uid_cmp b y) o false ≡ true) ↔ IsNamed (record { nodes = ns; number = i }) q s y

    right_now : (s : Store) → IsKept kept s → (i : ℕ) (y : EntityUID) (b : Bool) → is_eq (nat_cmp p.number i) ≡ b → is_some (cond b (Some ids) (get nat_cmp m i)) ≡ true → AreRight s i y (cond b (Some ids) (get nat_cmp m i))
    right_now s k i y true e there = subst (λ j. AreRight s j y (Some ids)) (exact_unsigned p.number i (equal_of (nat_cmp p.number i) e)) (named s k y)
    right_now s k i y false e there = t.right s k i there y

    still : (b : Bool) (o : Option (BTreeSet EntityUID)) → is_some o ≡ true → is_some (cond b (Some ids) o) ≡ true
    still true o h = refl
    still false o h = h

    first : (r : Place) → IsIn r (p ∷ left) → IsIn r left ⊎ (is_some (get nat_cmp now r.number) ≡ true)
    first r (inl same) = inr (subst (λ (z : Place). is_some (get nat_cmp now z.number) ≡ true) same (ap (λ (o : Option (BTreeSet EntityUID)). is_some o) here))
    first r (inr i) = inl i

    by : (r : Place) → IsIn r it ⊎ (is_some (get nat_cmp m r.number) ≡ true) → IsIn r left ⊎ (is_some (get nat_cmp now r.number) ≡ true)
    by r (inl i) = first r (subst (IsIn r) is i)
    by r (inr h) = inr (ap (λ (o : Option (BTreeSet EntityUID)). is_some o) (put r.number) ∙ still (is_eq (nat_cmp p.number r.number)) (get nat_cmp m r.number) h)

    pub naming_more : IsNaming ns q kept left all now
    naming_more = record {
      right = λ s k i there y. subst (AreRight s i y) (sym (put i)) (right_now s k i y (is_eq (nat_cmp p.number i)) refl (sym (ap (λ (o : Option (BTreeSet EntityUID)). is_some o) (put i)) ∙ there));
      rest = λ r h. by r (t.rest r h);
    }

pub naming_done : (ns : Table) (q : Request) (kept : BTreeMap EntityUID StoredEntity) (left all : List Place) (m : NamedIds) → left ≡ [] → IsNaming ns q kept left all m → AreNamed ns q all kept m
naming_done ns q kept left all m none t s k p h y = by (t.rest p h)
  where
    by : IsIn p left ⊎ (is_some (get nat_cmp m p.number) ≡ true) → (names m p.number y ≡ true) ↔ IsNamed (node_of ns p) q s y
    by (inl i) = absurd (subst (IsIn p) none i)
    by (inr there) = t.right s k p.number there y
