-- What is reached from a request in a number of steps, and a store cut to it.
use Rattle.std.specs.Prelude.{ℕ, zero, suc, Bool, List, [], ◌∷◌, ◌++◌, filter}
use Rattle.std.specs.List.{list_any, flat_map}
use Rattle.policy_values.specs.declared.entity_uid.EntityUID.{EntityUID}
use Rattle.policy_values.specs.Value.{Val, entity, set, rec, Vals, no_vals, val, Fields, no_fields, field}
use Rattle.entity_store.specs.declared.request.Request.{Request}
use Rattle.entity_store.specs.Request.{principal_of, action_of, resource_of}
use Rattle.entity_store.specs.Store.{StoredEntity, Store}
use Rattle.policy_core.specs.Eval.{known_fields}
use Rattle.policy_values.specs.Uid.{uid_eq}

-- all ids anywhere in a value
abbrev mutual
  pub ids_in : Val → List EntityUID
  ids_in (entity u) = u ∷ []
  ids_in (set vs) = ids_in_all vs
  ids_in (rec fs) = ids_in_fields fs
  ids_in v = []

  pub ids_in_all : Vals → List EntityUID
  ids_in_all no_vals = []
  ids_in_all (val v vs) = ids_in v ++ ids_in_all vs

  pub ids_in_fields : Fields → List EntityUID
  ids_in_fields no_fields = []
  ids_in_fields (field k v fs) = ids_in v ++ ids_in_fields fs

-- the ids that an entity holds: those in its attributes and in its tags
abbrev pub ids_held : StoredEntity → List EntityUID
ids_held e = ids_in_fields e.attrs ++ ids_in_fields e.tags

-- the ids that a request holds: those of its entries, and those in its context
abbrev pub ids_asked : Request → List EntityUID
ids_asked q = principal_of q ∷ action_of q ∷ resource_of q ∷ ids_in_fields (known_fields q.context)

-- the id is one of the list
abbrev pub is_among : List EntityUID → EntityUID → Bool
is_among us u = list_any (uid_eq u) us

-- the entities whose ids are among these
abbrev pub entities_among : List EntityUID → Store → Store
entities_among us s = filter (λ e. is_among us e.uid) s

-- the ids that are reached in so many steps: those that the request holds, and with each step those that the
-- entities reached so far hold
abbrev pub reach : ℕ → Request → Store → List EntityUID
reach zero q s = ids_asked q
reach (suc k) q s = reach k q s ++ flat_map ids_held (entities_among (reach k q s) s)

-- the store cut at a level: empty at level 0; at each level above it, the entities that are reached in one
-- step fewer, each whole
abbrev pub cut : ℕ → Request → Store → Store
cut zero q s = []
cut (suc n) q s = entities_among (reach n q s) s
