-- Addresses in their order, group by group.
use Rattle.std.proofs.Common.{◌≡◌, ℕ, zero, suc, ◌<◌, ◌≤◌, ◌+◌, Bool, true, false, cond, ◌||◌, List, [], ◌∷◌, ◌++◌, Option, Some, None, Bor, map, take, drop, length, get_or, refl, sym, ap, ◌∙◌, subst, arith}
use Rattle.std.specs.List.{AllByRecursion, list_any}
use Rattle.std.specs.List.Sorted.{IsSorted}
use Rattle.std.specs.declared.cmp.Ordering.{Ordering}
use Rattle.std.specs.declared.cmp.Ordering.TheVariants.{Less, Equal, Greater}
use Rattle.std.specs.Ordering.{is_lt, is_eq, ordering_then}
use Rattle.std.specs.Cmp.{tied_itself}
use Rattle.std.specs.Cmp.Lexicographic.{slice_cmp, lists_total}
use Rattle.std.proofs.lemmas.List.Sorted.{ranks_by, sorted_far}
use Rattle.access_tries.specs.declared.edge.Edge.{Edge}
use Rattle.access_tries.specs.Edges.{Address, edge_cmp, edge_eq}
use Rattle.access_tries.specs.EdgeLaws.{edge_total, exact_edge}
use Rattle.access_tries.specs.SameLaws.{edge_is}
use Rattle.access_tries.specs.Paths.{is_prefix_of, is_same}
use Rattle.access_tries.specs.Tails.{tails, IsNoSooner, Rise, begins, run}
use Rattle.access_tries.proofs.Merging.{other_way}

-- how many edges addresses have in all
abbrev pub edge_count : List Address → ℕ
edge_count [] = 0
edge_count (t ∷ ts) = length t + edge_count ts

-- the address begins with a later edge
abbrev pub IsBeyond : Edge → Address → Type 0
IsBeyond e [] = ⊥
IsBeyond e (f ∷ t) = edge_cmp e f ≡ Less

-- the addresses are some that begin with the edge, with this below it, and some that begin with later edges
pub record IsParted (e : Edge) (below after all : List Address) : Type 0 where
  pub parts : all ≡ map (λ t. e ∷ t) below ++ after
  pub beyond : AllByRecursion (IsBeyond e) after

-- a later address that does not begin with the edge begins with a later one
later_head : (e : Edge) (t : Address) (f : Edge) (u : Address) → IsNoSooner (e ∷ t) (f ∷ u) → edge_eq f e ≡ false → edge_cmp e f ≡ Less
later_head e t f u h k = by (edge_cmp f e) refl h k where
  by : (o : Ordering) → edge_cmp f e ≡ o → is_lt (ordering_then o (slice_cmp edge_cmp u t)) ≡ false → is_eq o ≡ false → edge_cmp e f ≡ Less
  by Less is h k = cc
  by Equal is h k = cc
  by Greater is h k = other_way f e is

beyond_one : (e f : Edge) (u v : Address) → edge_cmp e f ≡ Less → IsNoSooner (f ∷ u) v → IsBeyond e v
beyond_one e f u [] lt h = absurd (cc)
beyond_one e f u (g ∷ v) lt h = by (edge_cmp g f) refl h where
  by : (o : Ordering) → edge_cmp g f ≡ o → is_lt (ordering_then o (slice_cmp edge_cmp v u)) ≡ false → edge_cmp e g ≡ Less
  by Less is h = cc
  by Equal is h = subst (λ x. edge_cmp e x ≡ Less) (sym (exact_edge g f is)) lt
  by Greater is h = edge_total.trans e f g lt (other_way g f is)

beyond_all : (e f : Edge) (u : Address) (vs : List Address) → edge_cmp e f ≡ Less → AllByRecursion (IsNoSooner (f ∷ u)) vs → AllByRecursion (IsBeyond e) vs
beyond_all e f u [] lt h = tt
beyond_all e f u (v ∷ vs) lt h = (beyond_one e f u v lt h.0, beyond_all e f u vs lt h.1)

parted : (e : Edge) (t : Address) (ts : List Address) → AllByRecursion (IsNoSooner (e ∷ t)) ts → Rise ts → IsParted e (map (drop 1) (take (run (Some e) ts) ts)) (drop (run (Some e) ts) ts) ts
parted e t [] a r = record { parts = refl; beyond = tt }
parted e t ([] ∷ us) a r = absurd (let h = a.0 in cc)
parted e t ((f ∷ u) ∷ us) a r = by (edge_eq f e) refl (parted e t us a.1 r.1) where
  by : (b : Bool) → edge_eq f e ≡ b → IsParted e (map (drop 1) (take (run (Some e) us) us)) (drop (run (Some e) us) us) us → IsParted e (map (drop 1) (take (cond b (suc (run (Some e) us)) 0) ((f ∷ u) ∷ us))) (drop (cond b (suc (run (Some e) us)) 0) ((f ∷ u) ∷ us)) ((f ∷ u) ∷ us)
  by true is more = record { parts = λ i. (edge_is f e is i ∷ u) ∷ more.parts i; beyond = more.beyond }
  by false is more = let lt = later_head e t f u a.0 is in record { parts = refl; beyond = (lt, beyond_all e f u us lt r.0) }

-- the first address is in the group of its first edge
pub first_parted : (e : Edge) (t : Address) (ts : List Address) → Rise ((e ∷ t) ∷ ts) → IsParted e (map (drop 1) (take (run (Some e) ((e ∷ t) ∷ ts)) ((e ∷ t) ∷ ts))) (drop (run (Some e) ((e ∷ t) ∷ ts)) ((e ∷ t) ∷ ts)) ((e ∷ t) ∷ ts)
first_parted e t ts r = parted e t ((e ∷ t) ∷ ts) (ap is_lt (tied_itself (lists_total edge_total) (e ∷ t)), r.0) r

first_counts : (e : Edge) (t : Address) (ts : List Address) → run (Some e) ((e ∷ t) ∷ ts) ≡ suc (run (Some e) ts)
first_counts e t ts = ap (λ o. cond (is_eq o) (suc (run (Some e) ts)) 0) (tied_itself edge_total e)

-- runs end with the list
pub run_within : (o : Option Edge) (ts : List Address) → run o ts ≤ length ts
run_within o [] = omega arith
run_within o (t ∷ ts) = by (begins o t) (run_within o ts) where
  by : (b : Bool) → run o ts ≤ length ts → cond b (suc (run o ts)) 0 ≤ suc (length ts)
  by true h = omega (arith, h)
  by false h = omega arith

tails_take : (d n : ℕ) (rs : List (Bor Address)) → take n (tails d rs) ≡ tails d (take n rs)
tails_take d zero rs = refl
tails_take d (suc n) [] = refl
tails_take d (suc n) (a ∷ rs) = ap (λ ts. drop d a.now ∷ ts) (tails_take d n rs)

tails_drop : (d n : ℕ) (rs : List (Bor Address)) → drop n (tails d rs) ≡ tails d (drop n rs)
tails_drop d zero rs = refl
tails_drop d (suc n) [] = refl
tails_drop d (suc n) (a ∷ rs) = tails_drop d n rs

drop_next : {X : Type 0} (d : ℕ) (xs : List X) → drop 1 (drop d xs) ≡ drop (suc d) xs
drop_next zero xs = refl
drop_next (suc d) [] = refl
drop_next (suc d) (x ∷ xs) = drop_next d xs

tails_next : (d : ℕ) (rs : List (Bor Address)) → map (drop 1) (tails d rs) ≡ tails (suc d) rs
tails_next d [] = refl
tails_next d (a ∷ rs) = λ i. drop_next d a.now i ∷ tails_next d rs i

pub tails_length : (d : ℕ) (rs : List (Bor Address)) → length (tails d rs) ≡ length rs
tails_length d [] = refl
tails_length d (a ∷ rs) = ap suc (tails_length d rs)

-- what the next edge of the first address is
tail_is : {X : Type 0} (d : ℕ) (xs : List X) (x : X) → d < length xs → x ≡ get_or xs d x → drop d xs ≡ x ∷ drop (suc d) xs
tail_is d [] x h is = absurd (omega (arith, h))
tail_is zero (y ∷ ys) x h is = ap (λ z. z ∷ ys) (sym is)
tail_is (suc d) (y ∷ ys) x h is = tail_is d ys x (omega (arith, h)) is

-- one turn: the addresses that begin as the first one does, and the others
pub record IsTurn (d next : ℕ) (e : Edge) (group others rest : List (Bor Address)) : Type 0 where
  pub some : 0 < length group
  pub parted : IsParted e (tails next group) (tails d others) (tails d rest)

next_turn : (d : ℕ) (e : Edge) (a : Bor Address) (rest : List (Bor Address)) → 0 < length rest → a ≡ get_or rest 0 a → d < length a.now → e ≡ get_or a.now d e → Rise (tails d rest) →
    IsTurn d (d + 1) e (take (run (Some e) (tails d rest)) rest) (drop (run (Some e) (tails d rest)) rest) rest
next_turn d e a [] some is within there r = absurd (omega (arith, some))
next_turn d e a (b ∷ bs) some is within there r =
    let head : drop d b.now ≡ e ∷ drop (suc d) b.now = subst (λ z. drop d z.now ≡ e ∷ drop (suc d) z.now) is (tail_is d a.now e within there) in
    let whole : tails d (b ∷ bs) ≡ (e ∷ drop (suc d) b.now) ∷ tails d bs = ap (λ t. t ∷ tails d bs) head in
    let n = run (Some e) (tails d (b ∷ bs)) in
    let counts : n ≡ suc (run (Some e) (tails d bs)) = ap (run (Some e)) whole ∙ first_counts e (drop (suc d) b.now) (tails d bs) in
    record {
      some = subst (λ k. 0 < length (take k (b ∷ bs))) (sym counts) (omega arith);
      parted = here (tails d (b ∷ bs)) refl (subst (λ ts. IsParted e (map (drop 1) (take (run (Some e) ts) ts)) (drop (run (Some e) ts) ts) ts) (sym whole) (first_parted e (drop (suc d) b.now) (tails d bs) (subst Rise whole r)));
    }
  where
    here : (ts : List Address) → ts ≡ tails d (b ∷ bs) → IsParted e (map (drop 1) (take (run (Some e) ts) ts)) (drop (run (Some e) ts) ts) ts →
        IsParted e (tails (d + 1) (take (run (Some e) ts) (b ∷ bs))) (tails d (drop (run (Some e) ts) (b ∷ bs))) ts
    here ts is p =
        let below : map (drop 1) (take (run (Some e) ts) ts) ≡ tails (d + 1) (take (run (Some e) ts) (b ∷ bs)) =
        let one : suc d ≡ d + 1 = omega arith in
        ap (λ us. map (drop 1) (take (run (Some e) ts) us)) is ∙ ap (map (drop 1)) (tails_take d (run (Some e) ts) (b ∷ bs)) ∙ tails_next d (take (run (Some e) ts) (b ∷ bs)) ∙ ap (λ k. tails k (take (run (Some e) ts) (b ∷ bs))) one in
        let after : drop (run (Some e) ts) ts ≡ tails d (drop (run (Some e) ts) (b ∷ bs)) = ap (drop (run (Some e) ts)) is ∙ tails_drop d (run (Some e) ts) (b ∷ bs) in
        subst (λ us. IsParted e us (tails d (drop (run (Some e) ts) (b ∷ bs))) ts) below (subst (λ us. IsParted e (map (drop 1) (take (run (Some e) ts) ts)) us ts) after p)

pub turn : (d next : ℕ) (e : Edge) (a : Bor Address) (rest group others : List (Bor Address)) (k : ℕ) → 0 < length rest → a ≡ get_or rest 0 a → d < length a.now → e ≡ get_or a.now d e → Rise (tails d rest) →
    next ≡ d + 1 → k ≡ run (Some e) (tails d rest) → group ≡ take k rest → others ≡ drop k rest → IsTurn d next e group others rest
turn d next e a rest group others k some is within there r after counts prefix back =
    subst (λ n. IsTurn d n e group others rest) (sym after)
    (subst (λ g. IsTurn d (d + 1) e g others rest) (sym (prefix ∙ ap (λ n. take n rest) counts))
    (subst (λ o. IsTurn d (d + 1) e (take (run (Some e) (tails d rest)) rest) o rest) (sym (back ∙ ap (λ n. drop n rest) counts)) (next_turn d e a rest some is within there r)))

-- what is left of a list of addresses in order is in order, before and behind the edge of a group
no_sooner_below : (e : Edge) (t u : Address) → IsNoSooner (e ∷ t) (e ∷ u) → IsNoSooner t u
no_sooner_below e t u h = subst (λ o. is_lt (ordering_then o (slice_cmp edge_cmp u t)) ≡ false) (tied_itself edge_total e) h

all_below : (e : Edge) (t : Address) (below after : List Address) → AllByRecursion (IsNoSooner (e ∷ t)) (map (λ u. e ∷ u) below ++ after) → AllByRecursion (IsNoSooner t) below
all_below e t [] after h = tt
all_below e t (u ∷ us) after h = (no_sooner_below e t u h.0, all_below e t us after h.1)

below_rises : (e : Edge) (below after : List Address) → Rise (map (λ t. e ∷ t) below ++ after) → Rise below
below_rises e [] after r = tt
below_rises e (t ∷ ts) after r = (all_below e t ts after r.0, below_rises e ts after r.1)

after_rises : (e : Edge) (below after : List Address) → Rise (map (λ t. e ∷ t) below ++ after) → Rise after
after_rises e [] after r = r
after_rises e (t ∷ ts) after r = after_rises e ts after r.1

after_all : (P : Address → Type 0) (prefix after : List Address) → AllByRecursion P (prefix ++ after) → AllByRecursion P after
after_all P [] after h = h
after_all P (t ∷ ts) after h = after_all P ts after h.1

edges_in_group : (e : Edge) (below after : List Address) → edge_count (map (λ t. e ∷ t) below ++ after) ≡ length below + (edge_count below + edge_count after)
edges_in_group e [] after = omega arith
edges_in_group e (t ∷ ts) after =
    let more = edges_in_group e ts after in
    let whole : edge_count (map (λ u. e ∷ u) (t ∷ ts) ++ after) ≡ suc (length t) + edge_count (map (λ u. e ∷ u) ts ++ after) = refl in
    let below : edge_count (t ∷ ts) ≡ length t + edge_count ts = refl in
    omega (arith, more, whole, below)

module _ (e : Edge) (below after all : List Address) (p : IsParted e below after all) where
  pub rises_below : Rise all → Rise below
  rises_below r = below_rises e below after (subst Rise p.parts r)

  pub rises_after : Rise all → Rise after
  rises_after r = after_rises e below after (subst Rise p.parts r)

  pub all_after : (P : Address → Type 0) → AllByRecursion P all → AllByRecursion P after
  all_after P h = after_all P (map (λ t. e ∷ t) below) after (subst (AllByRecursion P) p.parts h)

  pub edges_of : edge_count all ≡ length below + (edge_count below + edge_count after)
  edges_of = ap (edge_count) p.parts ∙ edges_in_group e below after

  -- the group's edge is later than one that is before all
  pub beyond_group : (b : Edge) → 0 < length below → AllByRecursion (IsBeyond b) all → edge_cmp b e ≡ Less
  beyond_group b some h = here below some (subst (AllByRecursion (IsBeyond b)) p.parts h) where
    here : (ts : List Address) → 0 < length ts → AllByRecursion (IsBeyond b) (map (λ t. e ∷ t) ts ++ after) → edge_cmp b e ≡ Less
    here [] some h = absurd (omega (arith, some))
    here (t ∷ ts) some h = h.0

-- whether the addresses that end come first: the first one says whether any does
open_later : (f : Edge) (u : Address) (vs : List Address) → AllByRecursion (IsNoSooner (f ∷ u)) vs → AllByRecursion (λ t. 0 < length t) vs
open_later f u [] h = tt
open_later f u ([] ∷ vs) h = absurd (let k = h.0 in cc)
open_later f u ((g ∷ v) ∷ vs) h = (omega arith, open_later f u vs h.1)

none_ends : (ts : List Address) → AllByRecursion (λ t. 0 < length t) ts → list_any (is_same []) ts ≡ false
none_ends [] h = refl
none_ends ([] ∷ ts) h = absurd (omega (arith, h.0))
none_ends ((f ∷ u) ∷ ts) h = none_ends ts h.1

pub first_ends : (t : Address) (ts : List Address) → Rise (t ∷ ts) → begins None t ≡ list_any (is_same []) (t ∷ ts)
first_ends [] ts r = refl
first_ends (f ∷ u) ts r = sym (none_ends ts (open_later f u ts r.0))

pub first_ends_at : (d : ℕ) (rs : List (Bor Address)) (a : Bor Address) → 0 < length rs → a ≡ get_or rs 0 a → Rise (tails d rs) → begins None (drop d a.now) ≡ list_any (is_same []) (tails d rs)
first_ends_at d [] a some is r = absurd (omega (arith, some))
first_ends_at d (b ∷ bs) a some is r = ap (λ z. begins None (drop d z.now)) is ∙ first_ends (drop d b.now) (tails d bs) r

-- an address with an edge there does not end there
pub not_ended : (d : ℕ) (a : Address) → d < length a → false ≡ begins None (drop d a)
not_ended d [] h = absurd (omega (arith, h))
not_ended zero (x ∷ a) h = refl
not_ended (suc d) (x ∷ a) h = not_ended d a (omega (arith, h))

-- what is left where those that end are left out
pub left_of_ends : (d k : ℕ) (rs left : List (Bor Address)) → k ≡ run None (tails d rs) → left ≡ drop k rs → tails d left ≡ drop (run None (tails d rs)) (tails d rs)
left_of_ends d k rs left counts back = ap (tails d) (back ∙ ap (λ n. drop n rs) counts) ∙ sym (tails_drop d (run None (tails d rs)) rs)

pub run_in : (o : Option Edge) (d k : ℕ) (rs : List (Bor Address)) → k ≡ run o (tails d rs) → k ≤ length rs
run_in o d k rs is = let h = run_within o (tails d rs) in let l = tails_length d rs in omega (arith, h, l, is)

-- one of the addresses goes on from no edges
pub prefix_of_none : (d : ℕ) (rs : List (Bor Address)) → 0 < length rs → true ≡ list_any (is_prefix_of []) (tails d rs)
prefix_of_none d [] h = absurd (omega (arith, h))
prefix_of_none d (r ∷ rs) h = refl

pub open_after_ends : (ts : List Address) → Rise ts → AllByRecursion (λ t. 0 < length t) (drop (run None ts) ts)
open_after_ends [] r = tt
open_after_ends ([] ∷ ts) r = open_after_ends ts r.1
open_after_ends ((f ∷ u) ∷ ts) r = (omega arith, open_later f u ts r.0)

pub rises_after_ends : (ts : List Address) → Rise ts → Rise (drop (run None ts) ts)
rises_after_ends [] r = tt
rises_after_ends ([] ∷ ts) r = rises_after_ends ts r.1
rises_after_ends ((f ∷ u) ∷ ts) r = r

pub edges_after_ends : (ts : List Address) → edge_count (drop (run None ts) ts) ≡ edge_count ts
edges_after_ends [] = refl
edges_after_ends ([] ∷ ts) = let more = edges_after_ends ts in omega (arith, more)
edges_after_ends ((f ∷ u) ∷ ts) = refl

pub same_after_ends : (p : Address → Address → Bool) (x : Edge) (es : Address) → p (x ∷ es) [] ≡ false → (ts : List Address) → list_any (p (x ∷ es)) (drop (run None ts) ts) ≡ list_any (p (x ∷ es)) ts
same_after_ends p x es h [] = refl
same_after_ends p x es h ([] ∷ ts) = same_after_ends p x es h ts ∙ sym (ap (λ b. b || list_any (p (x ∷ es)) ts) h)
same_after_ends p x es h ((f ∷ u) ∷ ts) = refl

-- where a sort puts addresses, they rise
pub rise_of_sorted : (rs : List (Bor Address)) → IsSorted (λ x y. slice_cmp edge_cmp x.now y.now) rs → Rise (tails 0 rs)
rise_of_sorted rs h = pairs rs (sorted_far (λ x y. is_lt (slice_cmp edge_cmp x.now y.now)) (ranks_by (lists_total edge_total) (λ x. x.now)) rs h)
  where
    firsts : (a : Bor Address) (bs : List (Bor Address)) → ((j : ℕ) (d : Bor Address) → j < length bs → is_lt (slice_cmp edge_cmp (get_or bs j d).now a.now) ≡ false) → AllByRecursion (IsNoSooner a.now) (tails 0 bs)
    firsts a [] h = tt
    firsts a (b ∷ bs) h = (h 0 a (omega arith), firsts a bs (λ j d l. h (suc j) d (omega (arith, l))))

    pairs : (bs : List (Bor Address)) → ((i j : ℕ) (d : Bor Address) → i ≤ j → j < length bs → is_lt (slice_cmp edge_cmp (get_or bs j d).now (get_or bs i d).now) ≡ false) → Rise (tails 0 bs)
    pairs [] h = tt
    pairs (b ∷ bs) h = (firsts b bs (λ j d l. h 0 (suc j) d (omega arith) (omega (arith, l))), pairs bs (λ i j d k l. h (suc i) (suc j) d (omega (arith, k)) (omega (arith, l))))

pub whole : {X : Type 0} (n : ℕ) (xs : List X) → length xs ≤ n → take n xs ≡ xs
whole zero [] h = refl
whole (suc n) [] h = refl
whole zero (x ∷ xs) h = absurd (omega (arith, h))
whole (suc n) (x ∷ xs) h = ap (λ ys. x ∷ ys) (whole n xs (omega (arith, h)))
