-- Places at which entities are asked for.
use Rattle.std.specs.Prelude.{◌≡◌, ◌⊎◌, ℕ, ◌+◌, ◌<◌, ◌≤◌, Bool, true, ◌||◌, List, length, map}
use Rattle.std.specs.List.{list_any}
use Rattle.std.specs.Ordering.{nat_cmp, ordering_then}
use Rattle.std.specs.declared.cmp.Ordering.{Ordering}
use Rattle.policy_values.specs.Uid.{uid_cmp}
use Rattle.access_tries.specs.Paths.{edge_of}
use Rattle.access_tries.specs.Table.{Table}
use Rattle.access_tries.specs.Views.{ViewData, view_leads}
use Rattle.reads_spec.specs.Paths.{Step}
use Rattle.reads_spec.specs.Among.{IsIn}
use Rattle.entity_loading.specs.declared.place.Place.{Place}

-- places by their ids, and then by their numbers
abbrev pub place_cmp : Place → Place → Ordering
place_cmp p q = ordering_then (uid_cmp p.uid q.uid) (nat_cmp p.number q.number)

-- the same places, and this one
pub record IsPlaced (p : Place) (old new : List Place) : Type 0 where
  pub tests : (f : Place → Bool) → list_any f new ≡ (list_any f old || f p)
  pub only : (q : Place) → IsIn q new → IsIn q old ⊎ (q ≡ p)

-- the node of a place
abbrev pub node_of : Table → Place → ViewData
node_of ns p = record { nodes = ns; number = p.number }

-- with m steps above the node, no path through it has more than n steps
abbrev pub Allows : ℕ → ℕ → ViewData → Type 0
Allows n m v = (ns : List Step) → view_leads v (map edge_of ns) ≡ true → length ns + m ≤ n

-- the place is at the node or at one below it
pub record IsAtOrBelow (v : ViewData) (p : Place) : Type 0 where
  pub late : v.number ≤ p.number
  pub there : p.number < length v.nodes
  pub allows : (n m : ℕ) → Allows n m v → Allows n m (record { nodes = v.nodes; number = p.number })

-- the place is at a node below it
pub record IsPlaceBelow (v : ViewData) (p : Place) : Type 0 where
  pub later : v.number < p.number
  pub there : p.number < length v.nodes
  pub allows : (n m : ℕ) → Allows n m v → Allows n (m + 1) (record { nodes = v.nodes; number = p.number })

-- the place is at a node below one of these places
pub record IsBelowSome (ns : Table) (ps : List Place) (q : Place) : Type 0 where
  pub from : Place
  pub among : IsIn from ps
  pub below : IsPlaceBelow (node_of ns from) q
