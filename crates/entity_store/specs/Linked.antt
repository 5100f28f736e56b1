-- Entities and their links apart.
use Rattle.std.specs.Prelude.{Option, Some, None}
use Rattle.std.specs.Option.{option_map_or}
use Rattle.std.specs.BTreeSet.{BTreeSet}
use Rattle.policy_values.specs.declared.entity_uid.EntityUID.{EntityUID}
use Rattle.entity_store.specs.Store.{StoredEntity}

-- the first set, where there is one, or else the second
abbrev pub chosen : Option (BTreeSet EntityUID) → BTreeSet EntityUID → BTreeSet EntityUID
chosen (Some shared) own = shared
chosen None own = own

-- what the entity lists, as a set
abbrev pub links_of : StoredEntity → BTreeSet EntityUID
links_of e = record { keys = e.ancestors }

-- the entity with those ancestors that a map has for it, where it has some
abbrev pub linked : (EntityUID → Option (BTreeSet EntityUID)) → StoredEntity → StoredEntity
linked links e = record e { ancestors = option_map_or (λ s. s.keys) (links e.uid) e.ancestors }
