-- What paths of a trie reach.
use Rattle.std.specs.Prelude.{◌≡◌, ◌↔◌, ◌<◌, Bool, true, ◌||◌, List, ◌∷◌, ◌++◌, length, Option, Some, None}
use Rattle.policy_values.specs.declared.entity_uid.EntityUID.{EntityUID}
use Rattle.policy_values.specs.Value.{entity}
use Rattle.entity_store.specs.declared.request.Request.{Request}
use Rattle.entity_store.specs.Store.{StoredEntity, Store, entity_at}
use Rattle.access_tries.specs.declared.edge.Edge.TheVariants.{Root}
use Rattle.access_tries.specs.declared.edge.EntityRoot.{EntityRoot}
use Rattle.access_tries.specs.Edges.{Address}
use Rattle.access_tries.specs.Paths.{address_of}
use Rattle.access_tries.specs.Table.{Table}
use Rattle.access_tries.specs.Views.{ViewData, whole}
use Rattle.reads_spec.specs.Paths.{AccessPath}
use Rattle.reads_spec.specs.Restrict.{reach, root_value}
use Rattle.reads_spec.specs.Among.{IsIn}
use Rattle.entity_loading.specs.declared.place.Place.{Place}
use Rattle.entity_loading.specs.Leads.{EntityLeads, IsLed}
use Rattle.entity_loading.specs.Needs.{sees, needs, points, entity_points}

-- a path leads to the entity, and the trie goes on from its end with the address, to a marked node if that
-- is asked
pub record IsReached (b : Bool) (ns : Table) (q : Request)
    (s : Store) (x : EntityUID) (a : Address) : Type 0 where
  pub path : AccessPath
  pub reached : IsIn (entity x) (reach s q path)
  pub passes : sees b (whole ns) (address_of path ++ a) ≡ true

-- asked for at some place of either list
abbrev pub either_needs : Bool → Table → List Place → List Place → EntityUID → Address → Bool
either_needs b ns reached pending x a = needs b ns reached x a || needs b ns pending x a

-- the roots' values, and the entities that were reached, lead to nothing but what was reached or is pending;
-- all that is reached by a path of the trie
pub record IsExplored (ns : Table) (q : Request) (s : Store) (reached pending : List Place) : Type 0 where
  pub begun : (b : Bool) (r : EntityRoot) (x : EntityUID) (a : Address) →
      points (root_value q r) (λ c. sees b (whole ns) (Root r ∷ c)) x a ≡ true →
      either_needs b ns reached pending x a ≡ true
  pub followed : (b : Bool) (y : EntityUID) (e : StoredEntity) → entity_at s y ≡ Some e →
      (x : EntityUID) (a : Address) → entity_points e (needs b ns reached y) x a ≡ true →
      either_needs b ns reached pending x a ≡ true
  pub sound : (b : Bool) (x : EntityUID) (a : Address) →
      either_needs b ns reached pending x a ≡ true → IsReached b ns q s x a

-- the steps along which an answer points lead there
abbrev pub IsAnswerLed : ViewData → Option StoredEntity → Type 0
IsAnswerLed v None = Unit {0}
IsAnswerLed v (Some e) = IsLed v (entity_points e) (EntityLeads e)

-- exactly what paths of the trie reach is asked for at some place
abbrev pub AreReachedAsked : Table → Request → Store → List Place → Type 0
AreReachedAsked ns q s ps =
    (b : Bool) (x : EntityUID) (a : Address) → (needs b ns ps x a ≡ true) ↔ IsReached b ns q s x a

-- each place is at a node
abbrev pub AreThere : Table → List Place → Type 0
AreThere ns ps = (p : Place) → IsIn p ps → p.number < length ns
