-- Hops reach what is to be reached.
use Rattle.std.proofs.Common.{◌≡◌, ◌⊎◌, ℕ, zero, suc, Bool, true, false, ◌||◌, List, [], ◌∷◌, ◌++◌, Option, Some, None, map, refl, sym, ap, ◌∙◌, subst, cond, inl, inr}
use Rattle.std.specs.Prelude.{IfSome}
use Rattle.std.specs.List.{flat_map, AllByRecursion}
use Rattle.std.specs.List.Sorted.{IsStrictlySortedBy}
use Rattle.std.specs.Option.{option_map_or}
use Rattle.std.specs.Ordering.{is_eq}
use Rattle.std.specs.declared.cmp.Ordering.TheVariants.{Less, Equal}
use Rattle.std.proofs.lemmas.Cmp.{tied_itself}
use Rattle.std.proofs.lemmas.Bool.{or_left, or_right}
use Rattle.std.proofs.lemmas.List.Folds.{list_any-append}
use Rattle.policy_values.specs.declared.entity_uid.EntityUID.{EntityUID}
use Rattle.policy_values.specs.Uid.{uid_cmp, uid_cmp_total, uid_eq}
use Rattle.entity_store.specs.declared.request.Request.{Request}
use Rattle.entity_store.specs.Store.{StoredEntity, Store, is_named, entity_at}
use Rattle.level_spec.specs.Cut.{ids_held, ids_asked, is_among, entities_among, reach}
use Rattle.level_spec.specs.Hops.{held_at, held_by, IsHop, IsNextHop, HopsReach}
use Rattle.level_spec.proofs.Reached.{same_uid, in_prefix, AllAmong, held_reached}
use Rattle.plain_lemmas.proofs.Booleans.{equal_by_both_ways, or_cases}

append_split : (us ws : List EntityUID) (u : EntityUID) → is_among (us ++ ws) u ≡ true → (is_among us u ≡ true) ⊎ (is_among ws u ≡ true)
append_split us ws u h = or_cases (is_among us u) (is_among ws u) (sym (list_any-append (uid_eq u) us ws) ∙ h)

append_left : (us ws : List EntityUID) (u : EntityUID) → is_among us u ≡ true → is_among (us ++ ws) u ≡ true
append_left us ws u h = in_prefix us ws u h

append_right : (us ws : List EntityUID) (u : EntityUID) → is_among ws u ≡ true → is_among (us ++ ws) u ≡ true
append_right us ws u h = list_any-append (uid_eq u) us ws ∙ or_right (is_among us u) (is_among ws u) h

among_all : (us ws : List EntityUID) → AllAmong us ws → (u : EntityUID) → is_among ws u ≡ true → is_among us u ≡ true
among_all us [] h u i = absurd (cc)
among_all us (w ∷ ws) h u i = here (or_cases (uid_eq u w) (is_among ws u) i) (λ j. among_all us ws h.1 u j)
  where
    here : (uid_eq u w ≡ true) ⊎ (is_among ws u ≡ true) → (is_among ws u ≡ true → is_among us u ≡ true) → is_among us u ≡ true
    here (inl e) f = subst (λ x. is_among us x ≡ true) (sym (same_uid u w e)) h.0
    here (inr j) f = f j

-- what some list holds, one of its ids holds
from_held : (s : Store) (fs : List EntityUID) (u : EntityUID) → is_among (held_by s fs) u ≡ true → (f : EntityUID) × (is_among fs f ≡ true) × (is_among (held_at s f) u ≡ true)
from_held s [] u h = absurd (cc)
from_held s (f ∷ fs) u h = here (append_split (held_at s f) (held_by s fs) u h) (λ i. from_held s fs u i)
  where
    here : (is_among (held_at s f) u ≡ true) ⊎ (is_among (held_by s fs) u ≡ true) →
        (is_among (held_by s fs) u ≡ true → (g : EntityUID) × (is_among fs g ≡ true) × (is_among (held_at s g) u ≡ true)) →
        (g : EntityUID) × (is_among (f ∷ fs) g ≡ true) × (is_among (held_at s g) u ≡ true)
    here (inl i) k = (f, or_left (uid_eq f f) (is_among fs f) (self f), i)
      where
        self : (x : EntityUID) → uid_eq x x ≡ true
        self x = ap is_eq (tied_itself uid_cmp_total x)
    here (inr i) k = let r = k i in (r.0, or_right (uid_eq r.0 f) (is_among fs r.0) r.1, r.2)

into_held : (s : Store) (fs : List EntityUID) (f u : EntityUID) → is_among fs f ≡ true → is_among (held_at s f) u ≡ true → is_among (held_by s fs) u ≡ true
into_held s [] f u h i = absurd (cc)
into_held s (g ∷ fs) f u h i = here (or_cases (uid_eq f g) (is_among fs f) h) (λ j. into_held s fs f u j i)
  where
    here : (uid_eq f g ≡ true) ⊎ (is_among fs f ≡ true) → (is_among fs f ≡ true → is_among (held_by s fs) u ≡ true) → is_among (held_by s (g ∷ fs)) u ≡ true
    here (inl e) k = append_left (held_at s g) (held_by s fs) u (subst (λ x. is_among (held_at s x) u ≡ true) (same_uid f g e) i)
    here (inr j) k = append_right (held_at s g) (held_by s fs) u (k j)

-- what the entities among some ids hold, one of them holds
from_entities : (P : StoredEntity → Type 0) (us : List EntityUID) (s : Store) → AllByRecursion P s → (u : EntityUID) → is_among (flat_map ids_held (entities_among us s)) u ≡ true → (e : StoredEntity) × P e × (is_among us e.uid ≡ true) × (is_among (ids_held e) u ≡ true)
from_entities P us [] a u h = absurd (cc)
from_entities P us (e ∷ s) a u h = here (is_among us e.uid) refl h (λ i. from_entities P us s a.1 u i)
  where
    here : (b : Bool) → is_among us e.uid ≡ b → is_among (flat_map ids_held (cond b (e ∷ entities_among us s) (entities_among us s))) u ≡ true →
        (is_among (flat_map ids_held (entities_among us s)) u ≡ true → (x : StoredEntity) × P x × (is_among us x.uid ≡ true) × (is_among (ids_held x) u ≡ true)) →
        (x : StoredEntity) × P x × (is_among us x.uid ≡ true) × (is_among (ids_held x) u ≡ true)
    here false i h k = k h
    here true i h k = there (append_split (ids_held e) (flat_map ids_held (entities_among us s)) u h)
      where
        there : (is_among (ids_held e) u ≡ true) ⊎ (is_among (flat_map ids_held (entities_among us s)) u ≡ true) → (x : StoredEntity) × P x × (is_among us x.uid ≡ true) × (is_among (ids_held x) u ≡ true)
        there (inl j) = (e, a.0, i, j)
        there (inr j) = k j

same_among : (us ws : List EntityUID) → ((u : EntityUID) → is_among us u ≡ is_among ws u) → (s : Store) → entities_among us s ≡ entities_among ws s
same_among us ws f [] = refl
same_among us ws f (e ∷ s) = (λ i. cond (f e.uid i) (e ∷ same_among us ws f s i) (same_among us ws f s i))

-- each entity is found at its id
abbrev FindsEach : Store → Type 0
FindsEach s = AllByRecursion (λ e. entity_at s e.uid ≡ Some e) s

finds_each : (s : Store) → IsStrictlySortedBy uid_cmp (map (λ e. e.uid) s) → FindsEach s
unfolding IsStrictlySortedBy
finds_each [] h = tt
finds_each (e ∷ s) h = (ap (λ o. cond (is_eq o) (Some e) (entity_at s e.uid)) (tied_itself uid_cmp_total e.uid), later s h.0 (finds_each s h.1))
  where
    one : (x : StoredEntity) → uid_cmp e.uid x.uid ≡ Less → entity_at s x.uid ≡ Some x → (b : Bool) → is_named x.uid e ≡ b → cond b (Some e) (entity_at s x.uid) ≡ Some x
    one x l f false i = f
    one x l f true i = let g : Equal ≡ Less = sym (tied_itself uid_cmp_total e.uid) ∙ ap (uid_cmp e.uid) (sym (same_uid x.uid e.uid i)) ∙ l in absurd (cc)

    later : (xs : Store) → AllByRecursion (λ u. uid_cmp e.uid u ≡ Less) (map (λ x. x.uid) xs) → AllByRecursion (λ x. entity_at s x.uid ≡ Some x) xs → AllByRecursion (λ x. entity_at (e ∷ s) x.uid ≡ Some x) xs
    later [] l f = tt
    later (x ∷ xs) l f = (one x l.0 f.0 (is_named x.uid e) refl, later xs l.1 f.1)

module _ (q : Request) (s : Store) (each : FindsEach s) where
  first : IsHop q s zero (ids_asked q) (ids_asked q)
  first = record { all = λ u. refl; fresh_reached = λ u h. h; old = λ u h i. let e : true ≡ false = sym h ∙ i in absurd (cc) }

  module _ (k : ℕ) (us fs vs gs : List EntityUID) (h : IsHop q s k us fs) (n : IsNextHop s us fs vs gs) where
    old_in : (u : EntityUID) → is_among us u ≡ true → is_among vs u ≡ true
    old_in u i = n.all u ∙ or_left (is_among us u) (is_among (held_by s fs) u) i

    held_in : (u : EntityUID) → is_among (held_by s fs) u ≡ true → is_among vs u ≡ true
    held_in u i = n.all u ∙ or_right (is_among us u) (is_among (held_by s fs) u) i

    -- what an id that was reached holds is reached
    held_reached_there : (x : EntityUID) → is_among us x ≡ true → (u : EntityUID) → is_among (held_at s x) u ≡ true → is_among vs u ≡ true
    held_reached_there x i u j = here (is_among fs x) refl
      where
        here : (b : Bool) → is_among fs x ≡ b → is_among vs u ≡ true
        here true e = held_in u (into_held s fs x u e j)
        here false e = old_in u (h.old x i e u j)

    held_once : (x : EntityUID) → is_among (reach k q s) x ≡ true → (u : EntityUID) → is_among (held_at s x) u ≡ true → is_among (reach (suc k) q s) u ≡ true
    held_once x i u j = here (entity_at s x) (held_reached q s k x i) j
      where
        here : (o : Option StoredEntity) → IfSome o (λ e. AllAmong (reach (suc k) q s) (ids_held e)) → is_among (option_map_or ids_held o []) u ≡ true → is_among (reach (suc k) q s) u ≡ true
        here None a j = absurd (cc)
        here (Some e) a j = among_all (reach (suc k) q s) (ids_held e) a u j

    sound : (u : EntityUID) → is_among vs u ≡ true → is_among (reach (suc k) q s) u ≡ true
    sound u i = here (or_cases (is_among us u) (is_among (held_by s fs) u) (sym (n.all u) ∙ i))
      where
        here : (is_among us u ≡ true) ⊎ (is_among (held_by s fs) u ≡ true) → is_among (reach (suc k) q s) u ≡ true
        here (inl j) = append_left (reach k q s) (flat_map ids_held (entities_among (reach k q s) s)) u (sym (h.all u) ∙ j)
        here (inr j) = let r = from_held s fs u j in held_once r.0 (sym (h.all r.0) ∙ h.fresh_reached r.0 r.1) u r.2

    complete : (u : EntityUID) → is_among (reach (suc k) q s) u ≡ true → is_among vs u ≡ true
    complete u i = here (append_split (reach k q s) (flat_map ids_held (entities_among (reach k q s) s)) u i)
      where
        here : (is_among (reach k q s) u ≡ true) ⊎ (is_among (flat_map ids_held (entities_among (reach k q s) s)) u ≡ true) → is_among vs u ≡ true
        here (inl j) = old_in u (h.all u ∙ j)
        here (inr j) =
            let r = from_entities (λ e. entity_at s e.uid ≡ Some e) (reach k q s) s each u j in
            held_reached_there r.0.uid (h.all r.0.uid ∙ r.2) u (ap (λ o. is_among (option_map_or ids_held o []) u) r.1 ∙ r.3)

    next : IsHop q s (suc k) vs gs
    next = record {
      all = λ u. equal_by_both_ways (is_among vs u) (is_among (reach (suc k) q s) u) (sound u) (complete u);
      fresh_reached = n.fresh_reached;
      old = λ x i j u l. held_reached_there x (n.newest x i j) u l;
    }

pub hops_reach : HopsReach
hops_reach q s sorted = record {
  first = first q s (finds_each s sorted);
  next = λ k us fs vs gs h n. next q s (finds_each s sorted) k us fs vs gs h n;
  leave = λ k us fs h. same_among us (reach k q s) h.all s;
}
