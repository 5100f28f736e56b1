-- Stores made of entities in the order of their ids.
use Rattle.std.specs.Prelude.{◌≡◌}
use Rattle.std.specs.List.{AllByRecursion}
use Rattle.std.specs.declared.cmp.Ordering.TheVariants.{Greater}
use Rattle.policy_values.specs.declared.entity_uid.EntityUID.{EntityUID}
use Rattle.policy_values.specs.Uid.{uid_cmp}
use Rattle.entity_store.specs.Store.{Store}

-- the id is greater than those of all entities
abbrev pub IsAbove : EntityUID → Store → Type 0
IsAbove uid s = AllByRecursion (λ e. uid_cmp uid e.uid ≡ Greater) s
