-- What is asked for first.
use Rattle.std.specs.Prelude.{◌≡◌, ℕ, ◌<◌, ◌≤◌, Bool, true, false, List, ◌∷◌, length, map}
use Rattle.std.specs.List.{list_any}
use Rattle.policy_values.specs.declared.entity_uid.EntityUID.{EntityUID}
use Rattle.policy_values.specs.Value.{Val}
use Rattle.entity_store.specs.declared.request.Request.{Request}
use Rattle.access_tries.specs.declared.edge.Edge.{Edge}
use Rattle.access_tries.specs.declared.edge.Edge.TheVariants.{Root}
use Rattle.access_tries.specs.declared.edge.EntityRoot.{EntityRoot}
use Rattle.access_tries.specs.Paths.{edge_of}
use Rattle.access_tries.specs.Table.{Table, links_at, leads}
use Rattle.access_tries.specs.Views.{ViewData, whole}
use Rattle.reads_spec.specs.Paths.{Step}
use Rattle.reads_spec.specs.Restrict.{root_value}
use Rattle.entity_loading.specs.declared.place.Place.{Place}
use Rattle.entity_loading.specs.Places.{Allows}
use Rattle.entity_loading.specs.Needs.{Test, sees, points}
use Rattle.entity_loading.specs.CannotGoOn.{Tests, tests_of, behind, Sticks}

-- where the value of a root leads from the node behind it
abbrev pub root_points : Bool → ViewData → Request → Edge → EntityUID → Test
root_points b v q (Root r) x a = points (root_value q r) (sees b v) x a
root_points b v q e x a = false

-- where the value of some root leads along the trie
abbrev pub roots_point : Table → Request → Bool → EntityUID → Test
roots_point ns q b x a =
    list_any (λ l. root_points b (record { nodes = ns; number = l.number }) q l.edge x a) (links_at ns 0)

-- no path of the trie has more than n steps
abbrev pub PathsWithin : Table → ℕ → Type 0
PathsWithin ns n =
    (r : EntityRoot) (ms : List Step) → leads ns (Root r ∷ map edge_of ms) ≡ true → length ms ≤ n

-- the place is at a node of the trie
pub record IsFirst (ns : Table) (p : Place) : Type 0 where
  pub there : p.number < length ns
  pub allows : (n : ℕ) → PathsWithin ns n → Allows n 0 (record { nodes = ns; number = p.number })

-- the edge leads from a root
abbrev pub IsRoot : Edge → Type 0
IsRoot (Root r) = Unit {0}
IsRoot e = ⊥

-- in the value of the root a value stands from which a path cannot go on
abbrev pub RootBlocks : Request → Edge → Tests → Val → Type 0
RootBlocks q (Root r) t u = Sticks (root_value q r) t u
RootBlocks q e t u = ⊥

-- in the value of some root a value stands from which a path of the trie cannot go on
abbrev pub SomeRootBlocks : Table → Request → Val → Type 0
SomeRootBlocks ns q u = (r : EntityRoot) × Sticks (root_value q r) (behind (Root r) (tests_of (whole ns))) u
