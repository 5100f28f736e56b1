-- Hops, and where there is nothing more to reach.
use Rattle.std.proofs.Common.{◌≡◌, ℕ, zero, suc, ◌+◌, ◌-◌, ◌≤◌, Bool, true, false, ◌||◌, List, [], ◌∷◌, map, length, refl, subst, arith}
use Rattle.policy_values.specs.declared.entity_uid.EntityUID.{EntityUID}
use Rattle.entity_store.specs.declared.request.Request.{Request}
use Rattle.entity_store.specs.Store.{Store}
use Rattle.level_spec.specs.Cut.{ids_asked, is_among, entities_among, cut}
use Rattle.level_spec.specs.Hops.{held_by, IsHop, IsNextHop, Hops}
use Rattle.level_validate.specs.Fresh.{AreFresh}

pub first_hop : (q : Request) (s : Store) (us fs : List EntityUID) → AreFresh (ids_asked q) [] us fs → IsHop q s zero us fs
first_hop q s us fs h = record { all = h.all; fresh_reached = h.fresh_reached; old = λ u i j. let e = h.newest u i j in absurd (cc) }

pub next_hop : (s : Store) (us fs vs gs : List EntityUID) → AreFresh (held_by s fs) us vs gs → IsNextHop s us fs vs gs
next_hop s us fs vs gs h = record { all = h.all; fresh_reached = h.fresh_reached; newest = h.newest }

or_none : (a : Bool) → a ≡ (a || false)
or_none true = refl
or_none false = refl

-- where nothing is fresh, further hops reach nothing
pub more_hops : (q : Request) (s : Store) → Hops q s → (k j : ℕ) (us : List EntityUID) → IsHop q s k us [] → IsHop q s (k + j) us []
more_hops q s hops k zero us h = let e : k ≡ k + 0 = omega arith in subst (λ n. IsHop q s n us []) e h
more_hops q s hops k (suc j) us h =
    let e : suc (k + j) ≡ k + suc j = omega arith in
    subst (λ n. IsHop q s n us []) e
    (hops.next (k + j) us [] us [] (more_hops q s hops k j us h) (record { all = λ u. or_none (is_among us u); fresh_reached = λ u i. absurd (cc); newest = λ u i j. i }))

-- what is left where all hops are made, or where nothing is fresh before
pub left_last : (q : Request) (s : Store) → Hops q s → (k n : ℕ) (us fs : List EntityUID) → IsHop q s k us fs → k ≡ n → entities_among us s ≡ cut (suc n) q s
left_last q s hops k n us fs h e = subst (λ m. entities_among us s ≡ cut (suc m) q s) e (hops.leave k us fs h)

pub left_early : (q : Request) (s : Store) → Hops q s → (k n : ℕ) (us fs : List EntityUID) → IsHop q s k us fs → k ≤ n → fs ≡ [] → entities_among us s ≡ cut (suc n) q s
left_early q s hops k n us fs h le none =
    let e : k + (n - k) ≡ n = omega arith in
    left_last q s hops (k + (n - k)) n us [] (more_hops q s hops k (n - k) us (subst (λ xs. IsHop q s k us xs) none h)) e

pub none_left : {A B : Type 0} (f : A → B) (xs : List A) → length xs ≡ 0 → map f xs ≡ []
none_left f [] h = refl
none_left f (x ∷ xs) h = absurd (omega (arith, h))
