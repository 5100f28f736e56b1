-- What is asked of each entity in a round.
use Rattle.std.specs.Prelude.{◌≡◌, ℕ, Bool, false, ◌&&◌, ◌||◌, List, Option, Some, None, is_some}
use Rattle.std.specs.BTreeMap.{BTreeMap, get}
use Rattle.std.specs.List.{list_any}
use Rattle.policy_values.specs.declared.entity_uid.EntityUID.{EntityUID}
use Rattle.policy_values.specs.Uid.{uid_cmp, uid_eq}
use Rattle.access_tries.specs.Edges.{Address}
use Rattle.access_tries.specs.Table.{Table}
use Rattle.access_tries.specs.Views.{ViewData, whole}
use Rattle.entity_loading.specs.declared.place.Place.{Place}
use Rattle.entity_loading.specs.Places.{node_of}
use Rattle.entity_loading.specs.Needs.{Test, sees, needs}
use Rattle.entity_loader.specs.declared.loader.EntityRequest.{EntityRequest}
use Rattle.entity_loading.specs.declared.borrowed.Borrowed.{Borrowed}
use Rattle.entity_loading.specs.declared.borrowed.Borrowed.TheVariants.{One, Many}

-- the trie that is borrowed
abbrev pub view_in : Table → Borrowed → ViewData
view_in ns (One n) = record { nodes = ns; number = n }
view_in ns (Many t) = whole t

abbrev pub borrowed_sees : Bool → Table → Option Borrowed → Test
borrowed_sees b ns None a = false
borrowed_sees b ns (Some l) a = sees b (view_in ns l) a

-- of each entity is asked what some place asks of it, and nothing else; none is asked for but those of
-- the places
pub record AreBorrowed (ns : Table) (ps : List Place) (borrowed : BTreeMap EntityUID Borrowed) : Type 0 where
  pub each : (b : Bool) (x : EntityUID) (a : Address) →
      borrowed_sees b ns (get uid_cmp borrowed x) a ≡ needs b ns ps x a
  pub some : (x : EntityUID) → is_some (get uid_cmp borrowed x) ≡ list_any (λ p. uid_eq p.uid x) ps

-- the same with one place more
pub record Borrows (ns : Table) (p : Place) (old new : BTreeMap EntityUID Borrowed) : Type 0 where
  pub each : (b : Bool) (x : EntityUID) (a : Address) → borrowed_sees b ns (get uid_cmp new x) a ≡
      (borrowed_sees b ns (get uid_cmp old x) a || (uid_eq p.uid x && sees b (node_of ns p) a))
  pub some : (x : EntityUID) → is_some (get uid_cmp new x) ≡ (is_some (get uid_cmp old x) || uid_eq p.uid x)

-- what is known of an entity, with what stands at one more node
pub record IsUnited (ns : Table) (known : Option Borrowed) (n : ℕ) (l : Borrowed) : Type 0 where
  pub each : (b : Bool) (a : Address) → sees b (view_in ns l) a ≡
      (borrowed_sees b ns known a || sees b (record { nodes = ns; number = n }) a)

-- the request for an id
abbrev pub request_of : Table → EntityUID × Borrowed → EntityRequest
request_of ns e = record { entity_id = e.0; access_trie = view_in ns e.1 }
