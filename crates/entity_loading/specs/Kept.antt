-- What is kept of a store, by the nodes at which entities are reached.
use Rattle.std.specs.Prelude.{◌≡◌, ◌↔◌, ℕ, Bool, true, false, ◌&&◌, ◌||◌, List, [], ◌∷◌, is_some}
use Rattle.std.specs.List.{list_any}
use Rattle.std.specs.Option.{option_map_or}
use Rattle.std.specs.Ordering.{nat_cmp}
use Rattle.std.specs.BTreeMap.{BTreeMap, get}
use Rattle.std.specs.BTreeSet.{BTreeSet, contains}
use Rattle.std.specs.declared.vec.Vec.{Vec}
use Rattle.std.specs.declared.alloc.Global.{Global}
use Rattle.policy_values.specs.declared.entity_uid.EntityUID.{EntityUID}
use Rattle.policy_values.specs.Uid.{uid_cmp, uid_eq}
use Rattle.entity_store.specs.declared.request.Request.{Request}
use Rattle.entity_store.specs.Store.{StoredEntity, Store}
use Rattle.access_tries.specs.Table.{Table}
use Rattle.reads_spec.specs.Paths.{any_tag, steps_of}
use Rattle.reads_spec.specs.Among.{IsIn}
use Rattle.reads_spec.specs.Restrict.{Keep}
use Rattle.entity_loading.specs.Names.{IsKept, IsNamed}
use Rattle.entity_loading.specs.declared.place.Place.{Place}
use Rattle.entity_loading.specs.Places.{node_of}
use Rattle.entity_loader.specs.Asked.{by_tag, some_leads, some_asks, some_along}

-- for each entity the numbers of the nodes at which it is reached
abbrev pub Numbers : Type 0
Numbers = BTreeMap EntityUID (Vec ℕ Global)

abbrev pub numbers_at : Numbers → EntityUID → List ℕ
numbers_at m x = option_map_or (λ v. v.items) (get uid_cmp m x) []

-- whether the entity is at some place whose node passes the test
abbrev pub some_place : (ℕ → Bool) → EntityUID → List Place → Bool
some_place f x ps = list_any (λ p. uid_eq p.uid x && f p.number) ps

-- the numbers of the places
pub record IsGrouped (ps : List Place) (m : Numbers) : Type 0 where
  pub tests : (f : ℕ → Bool) (x : EntityUID) → list_any f (numbers_at m x) ≡ some_place f x ps
  pub keys : (x : EntityUID) → is_some (get uid_cmp m x) ≡ list_any (λ p. uid_eq p.uid x) ps

-- one number more for an entity
pub record IsNumbered (x : EntityUID) (i : ℕ) (old new : Numbers) : Type 0 where
  pub tests : (f : ℕ → Bool) (y : EntityUID) →
      list_any f (numbers_at new y) ≡ (list_any f (numbers_at old y) || (uid_eq x y && f i))
  pub keys : (y : EntityUID) → is_some (get uid_cmp new y) ≡ (is_some (get uid_cmp old y) || uid_eq x y)

-- what the nodes of each entity lead along, and no ancestors
abbrev pub along_nodes : Table → Numbers → Keep
along_nodes ns m = record {
  chains = λ x. some_along ns (numbers_at m x);
  ancestors = λ x y. false;
  tags = λ x. by_tag (λ c. some_asks ns (numbers_at m x) (any_tag ∷ steps_of c));
}

-- ids, by the numbers of nodes
abbrev pub NamedIds : Type 0
NamedIds = BTreeMap ℕ (BTreeSet EntityUID)

-- whether the id is among those of some node
abbrev pub names : NamedIds → ℕ → EntityUID → Bool
names m i y = option_map_or (λ ids. contains uid_cmp ids y) (get nat_cmp m i) false

abbrev pub some_names : NamedIds → List ℕ → EntityUID → Bool
some_names m is y = list_any (λ i. names m i y) is

-- and the ancestors that some of the nodes names
abbrev pub with_names : Table → Numbers → NamedIds → Keep
with_names ns m named = record (along_nodes ns m) { ancestors = λ x. some_names named (numbers_at m x) }

-- exactly the entities with numbers have nodes that are there
abbrev pub AreNodes : Table → Numbers → Type 0
AreNodes ns m = (x : EntityUID) → is_some (get uid_cmp m x) ≡ some_leads ns (numbers_at m x) []

-- the ids that the ancestors' tries of each place name, where they are followed in what is kept
abbrev pub AreNamed : Table → Request → List Place → BTreeMap EntityUID StoredEntity → NamedIds → Type 0
AreNamed ns q ps kept m =
    (s : Store) → IsKept kept s → (p : Place) → IsIn p ps →
    (y : EntityUID) → (names m p.number y ≡ true) ↔ IsNamed (node_of ns p) q s y
