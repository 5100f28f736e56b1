-- What is reached, hop by hop: of each hop only what the one before it reached anew is looked up.
use Rattle.std.specs.Prelude.{◌≡◌, ℕ, zero, suc, true, false, ◌||◌, List, [], map}
use Rattle.std.specs.List.{flat_map}
use Rattle.std.specs.List.Sorted.{IsStrictlySortedBy}
use Rattle.std.specs.Option.{option_map_or}
use Rattle.policy_values.specs.declared.entity_uid.EntityUID.{EntityUID}
use Rattle.policy_values.specs.Uid.{uid_cmp}
use Rattle.entity_store.specs.declared.request.Request.{Request}
use Rattle.entity_store.specs.Store.{Store, entity_at}
use Rattle.level_spec.specs.Cut.{ids_held, ids_asked, is_among, entities_among, reach, cut}

-- the ids that the entity with the id holds, where it is stored
abbrev pub held_at : Store → EntityUID → List EntityUID
held_at s u = option_map_or ids_held (entity_at s u) []

abbrev pub held_by : Store → List EntityUID → List EntityUID
held_by s us = flat_map (held_at s) us

-- each id of the first list is in the second
abbrev pub Within : List EntityUID → List EntityUID → Type 0
Within us ws = (u : EntityUID) → is_among us u ≡ true → is_among ws u ≡ true

-- after so many hops: all that is reached, and what is fresh among it; what the entities hold that are not
-- fresh is reached
pub record IsHop (q : Request) (s : Store) (k : ℕ) (reached fresh : List EntityUID) : Type 0 where
  pub all : (u : EntityUID) → is_among reached u ≡ is_among (reach k q s) u
  pub fresh_reached : Within fresh reached
  pub old : (u : EntityUID) → is_among reached u ≡ true →
      is_among fresh u ≡ false → Within (held_at s u) reached

-- one hop more: what the fresh entities hold is reached besides, and what was not reached before is fresh
pub record IsNextHop (s : Store) (reached fresh reached2 fresh2 : List EntityUID) : Type 0 where
  pub all : (u : EntityUID) → is_among reached2 u ≡ (is_among reached u || is_among (held_by s fresh) u)
  pub fresh_reached : Within fresh2 reached2
  pub newest : (u : EntityUID) → is_among reached2 u ≡ true →
      is_among fresh2 u ≡ false → is_among reached u ≡ true

-- hops reach what is to be reached: they begin with what the request holds, go on so, and leave the cut store
pub record Hops (q : Request) (s : Store) : Type 0 where
  pub first : IsHop q s zero (ids_asked q) (ids_asked q)
  pub next : (k : ℕ) (us fs vs gs : List EntityUID) → IsHop q s k us fs →
      IsNextHop s us fs vs gs → IsHop q s (suc k) vs gs
  pub leave : (k : ℕ) (us fs : List EntityUID) → IsHop q s k us fs → entities_among us s ≡ cut (suc k) q s

-- of a store that ascends by id
abbrev pub HopsReach : Type 0
HopsReach = (q : Request) (s : Store) → IsStrictlySortedBy uid_cmp (map (λ e. e.uid) s) → Hops q s
