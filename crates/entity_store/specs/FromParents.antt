-- Stores that are made of entities with their parents, or with their ancestors.
use Rattle.std.specs.Prelude.{◌≡◌, ◌↔◌, ⊤, List, [], All, Contains, IsSomeAnd, map}
use Rattle.std.specs.List.Sorted.{IsStrictlySortedBy}
use Rattle.std.specs.Option.{option_map}
use Rattle.policy_values.specs.Reaches.{Reaches}
use Rattle.policy_values.specs.Least.{IsLeast}
use Rattle.policy_values.specs.Repeated.{IsRepeated}
use Rattle.policy_values.specs.declared.entity_uid.EntityUID.{EntityUID}
use Rattle.policy_values.specs.Uid.{uid_cmp}
use Rattle.entity_store.specs.declared.entities.EntitiesError.{EntitiesError}
use Rattle.entity_store.specs.declared.entities.EntitiesError.TheVariants.{Duplicate, Cycle, OutOfMemory}
use Rattle.entity_store.specs.Store.{StoredEntity, entity_at}

-- the ids of entities, in their order
abbrev pub ids_of : List StoredEntity → List EntityUID
ids_of es = map (λ e. e.uid) es

-- the entity with the id x lists y among its parents or ancestors
abbrev pub Lists : List StoredEntity → EntityUID → EntityUID → Type 0
Lists es x y = IsSomeAnd (entity_at es x) (λ e. Contains e.ancestors y)

-- the id is reached from itself by parents
abbrev pub IsOwnAncestor : List StoredEntity → EntityUID → Type 0
IsOwnAncestor es uid = Reaches (Lists es) uid uid

-- the entity, but for its parents or ancestors
abbrev pub without_links : StoredEntity → StoredEntity
without_links e = record e { ancestors = [] }

-- the store of the entities es, whose links are their parents: no id is repeated and none is its own
-- ancestor; the store has at each id the entity that es has there, with all ids that are reached by parents,
-- whether or not they have an entity
pub record IsFromParents (es store : List StoredEntity) : Type 0 where
  pub once : (uid : EntityUID) → ¬ IsRepeated (ids_of es) uid
  pub no_cycle : (uid : EntityUID) → ¬ IsOwnAncestor es uid
  pub ordered : IsStrictlySortedBy uid_cmp (ids_of store)
  pub kept : (uid : EntityUID) →
      option_map without_links (entity_at store uid) ≡ option_map without_links (entity_at es uid)
  pub ancestors : (x y : EntityUID) → Lists store x y ↔ Reaches (Lists es) x y
  pub ascending : All (λ e. IsStrictlySortedBy uid_cmp e.ancestors) store

-- why the entities es are no store: the least repeated id; where none is, the least id that is its own
-- ancestor
abbrev pub IsRefused : List StoredEntity → EntitiesError → Type 0
IsRefused es (Duplicate uid) = IsLeast uid_cmp (IsRepeated (ids_of es)) uid
IsRefused es (Cycle uid) =
    ((u : EntityUID) → ¬ IsRepeated (ids_of es) u) × IsLeast uid_cmp (IsOwnAncestor es) uid
IsRefused es OutOfMemory = ⊤

-- the store of the entities es, whose links are their ancestors: no id is repeated; the store has at each id
-- the entity that es has there
pub record IsFromAncestors (es store : List StoredEntity) : Type 0 where
  pub once : (uid : EntityUID) → ¬ IsRepeated (ids_of es) uid
  pub ordered : IsStrictlySortedBy uid_cmp (ids_of store)
  pub kept : (uid : EntityUID) → entity_at store uid ≡ entity_at es uid
  pub ascending : All (λ e. IsStrictlySortedBy uid_cmp e.ancestors) store

-- why they are no store: the least repeated id
abbrev pub IsRepeatedly : List StoredEntity → EntitiesError → Type 0
IsRepeatedly es (Duplicate uid) = IsLeast uid_cmp (IsRepeated (ids_of es)) uid
IsRepeatedly es (Cycle uid) = ⊥
IsRepeatedly es OutOfMemory = ⊤
