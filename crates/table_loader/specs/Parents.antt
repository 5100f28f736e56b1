-- Entities with their parents of which a part is known, and the stores that are made of them.
use Rattle.std.specs.Prelude.{◌≡◌, ◌↔◌, ◌⊎◌, Bool, true, List, Some, None, Contains, IsSome}
use Rattle.std.specs.Option.{option_map}
use Rattle.policy_values.specs.declared.entity_uid.EntityUID.{EntityUID}
use Rattle.policy_values.specs.Reaches.{Reaches}
use Rattle.policy_values.specs.Repeated.{IsRepeated}
use Rattle.entity_store.specs.declared.entities.EntitiesError.{EntitiesError}
use Rattle.entity_store.specs.declared.entities.EntitiesError.TheVariants.{OutOfMemory}
use Rattle.entity_store.specs.Store.{StoredEntity, entity_at}
use Rattle.entity_store.specs.FromParents.{ids_of, Lists, without_links, IsOwnAncestor, IsFromParents, IsRefused}

-- each entity of the part is the one that all have at its id
abbrev pub AreSomeOf : List StoredEntity → List StoredEntity → Type 0
AreSomeOf part all = (x : EntityUID) (e : StoredEntity) → entity_at part x ≡ Some e → entity_at all x ≡ Some e

-- such a part that has, with each entity, those of its parents that have an entity at all
pub record IsClosedUpward (part all : List StoredEntity) : Type 0 where
  pub some : AreSomeOf part all
  pub up : (x y : EntityUID) → Lists part x y → IsSome (entity_at all y) → IsSome (entity_at part y)

-- the store of a part that is closed upward has each of its entities, with its ancestors, as the store of all
-- entities has it
abbrev pub PartsAreRightStores : Type 0
PartsAreRightStores =
    (part all : List StoredEntity) → IsClosedUpward part all →
    (s t : List StoredEntity) → IsFromParents all s → IsFromParents part t →
    (x : EntityUID) → IsSome (entity_at part x) → entity_at t x ≡ entity_at s x

-- where no entity is its own ancestor, none is in a part; so a part in which no id is repeated is refused for
-- lack of memory alone
abbrev pub PartsAreStores : Type 0
PartsAreStores =
    (part all : List StoredEntity) → AreSomeOf part all → ((x : EntityUID) → ¬ IsOwnAncestor all x) →
    ((x : EntityUID) → ¬ IsOwnAncestor part x) ×
    (((x : EntityUID) → ¬ IsRepeated (ids_of part) x) →
    (e : EntitiesError) → IsRefused part e → e ≡ OutOfMemory)

-- what is given is there, and what is said to be absent is not
pub record AgreeWith (given : List StoredEntity) (absent : List EntityUID)
    (all : List StoredEntity) : Type 0 where
  pub there : AreSomeOf given all
  pub not_there : (y : EntityUID) → Contains absent y → entity_at all y ≡ None

-- each parent of what is given is given or said to be absent
abbrev pub IsClosedOver : List StoredEntity → List EntityUID → Type 0
IsClosedOver given absent =
    (x y : EntityUID) → Lists given x y → IsSome (entity_at given y) ⊎ Contains absent y

abbrev pub GivenRowsAreClosed : Type 0
GivenRowsAreClosed =
    (given : List StoredEntity) (absent : List EntityUID) (all : List StoredEntity) →
    AgreeWith given absent all → IsClosedOver given absent → IsClosedUpward given all

-- at each id that was looked up, what was found is what all entities have there
abbrev pub AreLookedUp : (EntityUID → Bool) → List StoredEntity → List StoredEntity → Type 0
AreLookedUp seen found all = (u : EntityUID) → seen u ≡ true → entity_at found u ≡ entity_at all u

-- where an id was looked up, and each ancestor that it has in the store of what was found, these are its
-- ancestors in the store of all entities
abbrev pub AncestorsAreAll : Type 0
AncestorsAreAll =
    (seen : EntityUID → Bool) (found all : List StoredEntity) → AreLookedUp seen found all →
    (t s : List StoredEntity) → IsFromParents found t → IsFromParents all s →
    (x : EntityUID) → seen x ≡ true → ((y : EntityUID) → Lists t x y → seen y ≡ true) →
    (y : EntityUID) → Lists t x y ↔ Lists s x y

-- where an id was looked up, its entity in the store of what was found is but for its ancestors the one in
-- the store of all entities
abbrev pub OthersAreAll : Type 0
OthersAreAll =
    (seen : EntityUID → Bool) (found all : List StoredEntity) → AreLookedUp seen found all →
    (t s : List StoredEntity) → IsFromParents found t → IsFromParents all s →
    (x : EntityUID) → seen x ≡ true →
    option_map without_links (entity_at t x) ≡ option_map without_links (entity_at s x)

-- where each ancestor was looked up too, it is that one
abbrev pub EntitiesAreWhole : Type 0
EntitiesAreWhole =
    (seen : EntityUID → Bool) (found all : List StoredEntity) → AreLookedUp seen found all →
    (t s : List StoredEntity) → IsFromParents found t → IsFromParents all s →
    (x : EntityUID) → seen x ≡ true → ((y : EntityUID) → Lists t x y → seen y ≡ true) →
    entity_at t x ≡ entity_at s x

-- ancestors that are taken for parents reach no more: entities that list all of their ancestors may be read
-- as entities with their parents
abbrev pub ClosedAgain : Type 0
ClosedAgain =
    (es s : List StoredEntity) → IsFromParents es s → (x y : EntityUID) → Lists s x y ↔ Reaches (Lists s) x y
