-- What is reached, and what a cut store still has.
use Rattle.std.proofs.Common.{◌≡◌, ℕ, zero, suc, Bool, true, false, nat_lt, List, [], ◌∷◌, ◌++◌, Option, Some, None, refl, sym, ap, ◌∙◌, subst, cond, arith, ◌⊎◌, inl, inr}
use Rattle.std.specs.Prelude.{IfSome}
use Rattle.std.specs.List.{flat_map, find, AllByRecursion}
use Rattle.std.specs.Ordering.{is_eq}
use Rattle.std.specs.declared.cmp.Ordering.{Ordering}
use Rattle.std.specs.declared.cmp.Ordering.TheVariants.{Less, Equal, Greater}
use Rattle.std.proofs.lemmas.Bool.{or_left, or_right}
use Rattle.std.proofs.lemmas.Cmp.{tied_itself}
use Rattle.std.proofs.lemmas.List.Folds.{list_any-append}
use Rattle.policy_values.specs.declared.entity_uid.EntityUID.{EntityUID}
use Rattle.policy_values.specs.Uid.{text_cmp, uid_cmp, uid_cmp_total, exact_uid, uid_eq}
use Rattle.policy_values.specs.Value.{Val, rec, Fields, no_fields, field, field_at}
use Rattle.entity_store.specs.declared.request.Request.{Request}
use Rattle.entity_store.specs.Store.{StoredEntity, Store, entity_at, is_named}
use Rattle.level_spec.specs.Cut.{ids_in, ids_in_fields, ids_held, ids_asked, is_among, entities_among, reach, cut}
use Rattle.policy_values.specs.Ties.{equal_of}

pub same_uid : (x y : EntityUID) → uid_eq x y ≡ true → x ≡ y
same_uid x y h = exact_uid x y (equal_of (uid_cmp x y) h)

uid_self : (x : EntityUID) → uid_eq x x ≡ true
uid_self x = ap is_eq (tied_itself uid_cmp_total x)

-- what is among the one is among the other
abbrev pub Within : List EntityUID → List EntityUID → Type 0
Within us ws = (u : EntityUID) → is_among us u ≡ true → is_among ws u ≡ true

pub in_prefix : (us ws : List EntityUID) → Within us (us ++ ws)
in_prefix us ws u h = list_any-append (uid_eq u) us ws ∙ or_left (is_among us u) (is_among ws u) h

behind : (us ws : List EntityUID) → Within ws (us ++ ws)
behind us ws u h = list_any-append (uid_eq u) us ws ∙ or_right (is_among us u) (is_among ws u) h

-- each of these ids is among the others
abbrev pub AllAmong : List EntityUID → List EntityUID → Type 0
AllAmong us ws = AllByRecursion (λ u. is_among us u ≡ true) ws

pub more_among : (us vs ws : List EntityUID) → Within us vs → AllAmong us ws → AllAmong vs ws
more_among us vs [] f h = tt
more_among us vs (w ∷ ws) f h = (f w h.0, more_among us vs ws f h.1)

among_self : (us : List EntityUID) → AllAmong us us
among_self [] = tt
among_self (u ∷ us) = (or_left (uid_eq u u) (is_among us u) (uid_self u), more_among us (u ∷ us) us (λ w h. or_right (uid_eq w u) (is_among us w) h) (among_self us))

pub first_among : (us vs ws : List EntityUID) → AllAmong us (vs ++ ws) → AllAmong us vs
first_among us [] ws h = tt
first_among us (v ∷ vs) ws h = (h.0, first_among us vs ws h.1)

pub last_among : (us vs ws : List EntityUID) → AllAmong us (vs ++ ws) → AllAmong us ws
last_among us [] ws h = h
last_among us (v ∷ vs) ws h = last_among us vs ws h.1

-- what the request holds is reached without a step
pub asked_reached : (q : Request) (s : Store) → AllAmong (reach zero q s) (ids_asked q)
asked_reached q s = among_self (ids_asked q)

-- with more steps no less is reached
or_equal : (j m : ℕ) → nat_lt j (suc m) ≡ true → (j ≡ m) ⊎ (nat_lt j m ≡ true)
or_equal j m h = here (nat_lt j m) refl
  where
    here : (b : Bool) → nat_lt j m ≡ b → (j ≡ m) ⊎ (b ≡ true)
    here true i = inr refl
    here false i = inl (search (arith))

pub reach_grows : (q : Request) (s : Store) (j m : ℕ) → nat_lt j (suc m) ≡ true → Within (reach j q s) (reach m q s)
reach_grows q s j m h = here m (or_equal j m h)
  where
    here : (m : ℕ) → (j ≡ m) ⊎ (nat_lt j m ≡ true) → Within (reach j q s) (reach m q s)
    here m (inl e) u i = subst (λ k. is_among (reach k q s) u ≡ true) e i
    here zero (inr l) u i = absurd (search (arith))
    here (suc m) (inr l) u i = in_prefix (reach m q s) (flat_map ids_held (entities_among (reach m q s) s)) u (here m (or_equal j m l) u i)

-- an entity that is reached is found in the cut store as in the whole one
pub found_among : (us : List EntityUID) (u : EntityUID) → is_among us u ≡ true → (s : Store) → entity_at (entities_among us s) u ≡ entity_at s u
found_among us u h [] = refl
found_among us u h (e ∷ s) = here (is_among us e.uid) refl (is_named u e) refl (found_among us u h s)
  where
    here : (b : Bool) → is_among us e.uid ≡ b → (c : Bool) → is_named u e ≡ c → find (is_named u) (entities_among us s) ≡ find (is_named u) s → find (is_named u) (cond b (e ∷ entities_among us s) (entities_among us s)) ≡ cond c (Some e) (find (is_named u) s)
    here true i true j r = ap (λ b. cond b (Some e) (find (is_named u) (entities_among us s))) j
    here true i false j r = ap (λ b. cond b (Some e) (find (is_named u) (entities_among us s))) j ∙ r
    here false i false j r = r
    here false i true j r = let f : true ≡ false = sym (subst (λ w. is_among us w ≡ true) (same_uid u e.uid j) h) ∙ i in absurd (cc)

pub found_cut : (q : Request) (s : Store) (n k : ℕ) (u : EntityUID) → nat_lt k n ≡ true → is_among (reach k q s) u ≡ true → entity_at (cut n q s) u ≡ entity_at s u
found_cut q s zero k u l h = absurd (search (arith))
found_cut q s (suc n) k u l h = found_among (reach n q s) u (reach_grows q s k n l u h) s

-- what an entity that is reached holds is reached with one step more
held_among : (us : List EntityUID) (u : EntityUID) → is_among us u ≡ true → (s : Store) → IfSome (entity_at s u) (λ e. AllAmong (flat_map ids_held (entities_among us s)) (ids_held e))
held_among us u h [] = tt
held_among us u h (e ∷ s) = here (is_among us e.uid) refl (is_named u e) refl (held_among us u h s)
  where
    weaker : (b : Bool) (o : Option StoredEntity) → IfSome o (λ x. AllAmong (flat_map ids_held (entities_among us s)) (ids_held x)) → IfSome o (λ x. AllAmong (flat_map ids_held (cond b (e ∷ entities_among us s) (entities_among us s))) (ids_held x))
    weaker b None k = tt
    weaker false (Some x) k = k
    weaker true (Some x) k = more_among (flat_map ids_held (entities_among us s)) (flat_map ids_held (e ∷ entities_among us s)) (ids_held x) (behind (ids_held e) (flat_map ids_held (entities_among us s))) k

    here : (b : Bool) → is_among us e.uid ≡ b → (c : Bool) → is_named u e ≡ c → IfSome (entity_at s u) (λ x. AllAmong (flat_map ids_held (entities_among us s)) (ids_held x)) → IfSome (cond c (Some e) (find (is_named u) s)) (λ x. AllAmong (flat_map ids_held (cond b (e ∷ entities_among us s) (entities_among us s))) (ids_held x))
    here true i true j r = more_among (ids_held e) (flat_map ids_held (e ∷ entities_among us s)) (ids_held e) (in_prefix (ids_held e) (flat_map ids_held (entities_among us s))) (among_self (ids_held e))
    here false i true j r = let f : true ≡ false = sym (subst (λ w. is_among us w ≡ true) (same_uid u e.uid j) h) ∙ i in absurd (cc)
    here b i false j r = weaker b (find (is_named u) s) r

pub held_reached : (q : Request) (s : Store) (k : ℕ) (u : EntityUID) → is_among (reach k q s) u ≡ true → IfSome (entity_at s u) (λ e. AllAmong (reach (suc k) q s) (ids_held e))
held_reached q s k u h = here (entity_at s u) (held_among (reach k q s) u h s)
  where
    here : (o : Option StoredEntity) → IfSome o (λ e. AllAmong (flat_map ids_held (entities_among (reach k q s) s)) (ids_held e)) → IfSome o (λ e. AllAmong (reach (suc k) q s) (ids_held e))
    here None i = tt
    here (Some e) i = more_among (flat_map ids_held (entities_among (reach k q s) s)) (reach (suc k) q s) (ids_held e) (behind (reach k q s) (flat_map ids_held (entities_among (reach k q s) s))) i

-- each id anywhere under the pending fields of a value is among these
abbrev pub Held : List EntityUID → List (List ℕ) → Val → Type 0
Held us [] v = AllAmong us (ids_in v)
Held us (n ∷ ns) (rec fs) = IfSome (field_at fs n) (λ w. Held us ns w)
Held us (n ∷ ns) v = Unit {0}

-- so are those of a field
pub field_among : (us : List EntityUID) (fs : Fields) (n : List ℕ) → AllAmong us (ids_in_fields fs) → IfSome (field_at fs n) (λ w. AllAmong us (ids_in w))
field_among us no_fields n h = tt
field_among us (field k v fs) n h = here (is_eq (text_cmp n k)) (field_among us fs n (last_among us (ids_in v) (ids_in_fields fs) h))
  where
    here : (b : Bool) → IfSome (field_at fs n) (λ w. AllAmong us (ids_in w)) → IfSome (cond b (Some v) (field_at fs n)) (λ w. AllAmong us (ids_in w))
    here true r = first_among us (ids_in v) (ids_in_fields fs) h
    here false r = r

pub all_held : (us : List EntityUID) (ns : List (List ℕ)) (v : Val) → AllAmong us (ids_in v) → Held us ns v
all_held us [] v h = h
all_held us (n ∷ ns) (rec fs) h = here (field_at fs n) (λ w i. all_held us ns w i) (field_among us fs n h)
  where
    here : (o : Option Val) → ((w : Val) → AllAmong us (ids_in w) → Held us ns w) → IfSome o (λ w. AllAmong us (ids_in w)) → IfSome o (λ w. Held us ns w)
    here None f i = tt
    here (Some w) f i = f w i
all_held us (n ∷ ns) v h = tt

pub more_held : (us ws : List EntityUID) → Within us ws → (ns : List (List ℕ)) (v : Val) → Held us ns v → Held ws ns v
more_held us ws f [] v h = more_among us ws (ids_in v) f h
more_held us ws f (n ∷ ns) (rec fs) h = here (field_at fs n) (λ w i. more_held us ws f ns w i) h
  where
    here : (o : Option Val) → ((w : Val) → Held us ns w → Held ws ns w) → IfSome o (λ w. Held us ns w) → IfSome o (λ w. Held ws ns w)
    here None g i = tt
    here (Some w) g i = g w i
more_held us ws f (n ∷ ns) v h = tt
