-- A round of requests.
use Rattle.std.specs.Prelude.{◌≡◌, ℕ, Bool, true, false, ◌||◌, List, [], Some, None}
use Rattle.std.specs.List.{list_any}
use Rattle.policy_values.specs.declared.entity_uid.EntityUID.{EntityUID}
use Rattle.policy_values.specs.Uid.{uid_eq}
use Rattle.entity_store.specs.declared.request.Request.{Request}
use Rattle.entity_store.specs.Store.{StoredEntity, Store, entity_at}
use Rattle.policy_values.specs.Value.{Val}
use Rattle.access_tries.specs.Edges.{Address}
use Rattle.access_tries.specs.Table.{Table}
use Rattle.entity_loading.specs.Answered.{answers_point}
use Rattle.entity_loading.specs.CannotGoOn.{tests_of, EntityBlocks}
use Rattle.entity_loading.specs.Begun.{roots_point}
use Rattle.entity_loading.specs.Needs.{Adds, sees, needs, entity_points}
use Rattle.entity_loading.specs.declared.place.Place.{Place}
use Rattle.entity_loader.specs.Answers.{IsHonest}
use Rattle.entity_loader.specs.declared.loader.EntityRequest.{EntityRequest}
use Rattle.entity_loading.specs.Keeping.{Found, kept_and}
use Rattle.entity_loading.specs.Reached.{IsReached}

-- in attributes or tags of an entity a value stands from which a path below a node of the table cannot go on
pub record Sticks (ns : Table) (u : Val) : Type 0 where
  pub entity : StoredEntity
  pub number : ℕ
  pub sticks : EntityBlocks entity (tests_of (record { nodes = ns; number = number })) u

-- the request asks the entity for all that the places do, and for nothing else
pub record AsksFor (ns : Table) (ps : List Place) (x : EntityUID) (r : EntityRequest) : Type 0 where
  pub id : r.entity_id ≡ x
  pub each : (b : Bool) (a : Address) → sees b r.access_trie a ≡ needs b ns ps x a

-- for each id of the places an honest answer, and nothing else
pub record AreHonestAt (exact : Bool) (s : Store) (ns : Table)
    (ps : List Place) (found : Found) : Type 0 where
  pub each : (x : EntityUID) → list_any (λ p. uid_eq p.uid x) ps ≡ true →
      (r : EntityRequest) × AsksFor ns ps x r × IsHonest exact s r (found x)
  pub others : (x : EntityUID) → list_any (λ p. uid_eq p.uid x) ps ≡ false → found x ≡ None

-- honest answers are kept, and what they lead to is asked for next
pub record IsRound (exact : Bool) (s : Store) (ns : Table)
    (ps : List Place) (old new : Found) (next : List Place) : Type 0 where
  pub found : Found
  pub honest : AreHonestAt exact s ns ps found
  pub kept : (x : EntityUID) → new x ≡ kept_and (old x) (found x)
  pub asked : Adds ns (answers_point ns found ps) [] next

-- these places, and those that were noted before
pub record AreNoted (ps old new : List Place) : Type 0 where
  pub tests : (f : Place → Bool) → list_any f new ≡ (list_any f old || list_any f ps)

-- all that is needed is asked for, or pending: of the roots' values, and of the entities that were asked for
pub record IsComplete (ns : Table) (q : Request) (s : Store) (asked pending : List Place) : Type 0 where
  pub begun : (b : Bool) (x : EntityUID) (a : Address) → roots_point ns q b x a ≡ true →
      (needs b ns asked x a || needs b ns pending x a) ≡ true
  pub followed : (b : Bool) (y : EntityUID) (e : StoredEntity) → entity_at s y ≡ Some e →
      (x : EntityUID) (a : Address) → entity_points e (needs b ns asked y) x a ≡ true →
      (needs b ns asked x a || needs b ns pending x a) ≡ true

-- whatever is asked for or pending is reached
pub record IsSound (ns : Table) (q : Request) (s : Store) (asked pending : List Place) : Type 0 where
  pub reached : (b : Bool) (x : EntityUID) (a : Address) →
      (needs b ns asked x a || needs b ns pending x a) ≡ true → IsReached b ns q s x a
