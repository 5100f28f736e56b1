-- What is kept of a store after some rounds.
use Rattle.std.specs.Prelude.{◌≡◌, ℕ, Bool, true, false, List, [], ◌∷◌, map, Option, Some, None, if◌then◌else◌}
use Rattle.std.specs.Option.{option_map}
use Rattle.policy_values.specs.declared.entity_uid.EntityUID.{EntityUID}
use Rattle.entity_store.specs.FromParents.{without_links}
use Rattle.entity_store.specs.declared.request.Request.{Request}
use Rattle.entity_store.specs.Store.{StoredEntity, Store, entity_at}
use Rattle.access_tries.specs.declared.edge.Edge.TheVariants.{AnyTag}
use Rattle.access_tries.specs.Edges.{Address}
use Rattle.access_tries.specs.Paths.{edge_of}
use Rattle.access_tries.specs.Table.{Table}
use Rattle.reads_spec.specs.Paths.{Chain, steps_of}
use Rattle.reads_spec.specs.Restrict.{Keep, cut_entity}
use Rattle.reads_spec.specs.Among.{IsWellFormed}
use Rattle.entity_loading.specs.Begun.{roots_point}
use Rattle.entity_loading.specs.Leads.{RootLeads}
use Rattle.entity_loading.specs.Needs.{Adds, needs}
use Rattle.entity_loading.specs.declared.place.Place.{Place}
use Rattle.entity_loader.specs.State.{LoaderState}
use Rattle.entity_loading.specs.Keeping.{Found}
use Rattle.entity_loading.specs.Ordered.{HasOrder}
use Rattle.entity_loading.specs.Reached.{IsReached}
use Rattle.entity_loading.specs.Rounds.{IsComplete, IsSound}

-- what a choice leaves of an entity
abbrev pub left : Keep → EntityUID → Option StoredEntity → Option StoredEntity
left k x o = if k.chains x [] then option_map (cut_entity k) o else None

abbrev pub along : Chain → Address
along c = map edge_of (steps_of c)

-- what is kept is what a choice leaves of the store, which has all that was asked for; where the loader is
-- exact, just that
pub record IsKeptPart (exact : Bool) (s : Store) (ns : Table)
    (asked : List Place) (kept : Found) : Type 0 where
  pub choice : Keep
  pub formed : IsWellFormed choice
  pub is : (x : EntityUID) → kept x ≡ left choice x (entity_at s x)
  pub chains : (x : EntityUID) (c : Chain) → needs false ns asked x (along c) ≡ true →
      choice.chains x c ≡ true
  pub tags : (x : EntityUID) (n : List ℕ) (c : Chain) →
      needs false ns asked x (AnyTag ∷ along c) ≡ true → choice.tags x (n ∷ c) ≡ true
  pub only_chains : exact ≡ true → (x : EntityUID) (c : Chain) → choice.chains x c ≡ true →
      needs false ns asked x (along c) ≡ true
  pub only_tags : exact ≡ true → (x : EntityUID) (n : List ℕ) (c : Chain) →
      choice.tags x (n ∷ c) ≡ true → needs false ns asked x (AnyTag ∷ along c) ≡ true
  pub bare : exact ≡ true → (x y : EntityUID) → choice.ancestors x y ≡ false

-- after some rounds, where the loader says its store
pub record IsState (exact : Bool) (ns : Table) (q : Request) (s : Store)
    (asked pending : List Place) (kept : Found) : Type 0 where
  pub complete : IsComplete ns q s asked pending
  pub sound : IsSound ns q s asked pending
  pub part : IsKeptPart exact s ns asked kept

-- the first places are those to which the roots' values lead, by steps; and keys ascend in the store
pub record IsBegun (ns : Table) (q : Request) (s : Store) (start : List Place) : Type 0 where
  pub asked : Adds ns (roots_point ns q) [] start
  pub leads : (b : Bool) (x : EntityUID) (a : Address) → roots_point ns q b x a ≡ true → RootLeads ns q b x a
  pub order : HasOrder s

-- it holds of the store that the loader says, and of each request whose roots lead to these first places
abbrev pub WhereBegun : LoaderState → Table → List Place → (Store → Request → Type 0) → Type 0
WhereBegun l ns start P = (s : Store) → l.store ≡ Some s → (q : Request) → IsBegun ns q s start → P s q

-- the same entities with the same attributes and tags
abbrev pub AreAlike : Found → Found → Type 0
AreAlike f g = (x : EntityUID) → option_map without_links (f x) ≡ option_map without_links (g x)

-- what is found has, but for ancestors, what a choice leaves of the store: at least what paths of the trie
-- reach; where the loader is exact, just that
pub record IsLoaded (exact : Bool) (ns : Table) (q : Request) (s found : Store) : Type 0 where
  pub choice : Keep
  pub is : AreAlike (entity_at found) (λ x. left choice x (entity_at s x))
  pub chains : (x : EntityUID) (c : Chain) → IsReached false ns q s x (along c) → choice.chains x c ≡ true
  pub tags : (x : EntityUID) (n : List ℕ) (c : Chain) →
      IsReached false ns q s x (AnyTag ∷ along c) → choice.tags x (n ∷ c) ≡ true
  pub only_chains : exact ≡ true → (x : EntityUID) (c : Chain) → choice.chains x c ≡ true →
      IsReached false ns q s x (along c)
  pub only_tags : exact ≡ true → (x : EntityUID) (n : List ℕ) (c : Chain) →
      choice.tags x (n ∷ c) ≡ true → IsReached false ns q s x (AnyTag ∷ along c)
