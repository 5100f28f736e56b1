-- Stores as plain data: entities under their ids.
use Rattle.std.specs.Prelude.{Bool, List, Option, find, refl}
use Rattle.std.specs.Ordering.{is_eq}
use Rattle.std.specs.Coded.{Coded, coded×, coded_list, code_by}
use Rattle.policy_values.specs.declared.entity_uid.EntityUID.{EntityUID}
use Rattle.policy_values.specs.Uid.{uid_cmp, coded_uid}
use Rattle.policy_values.specs.Value.{Fields}
use Rattle.policy_values.specs.ValueCode.{coded_fields}

-- an entity as it is stored: attributes and tags ascend by key, ancestors by id
pub record StoredEntity : Type 0 where
  pub uid : EntityUID
  pub attrs : Fields
  pub ancestors : List EntityUID
  pub tags : Fields

-- an entity is stored as the tuple of its parts
abbrev pub coded_entity : Coded StoredEntity
coded_entity =
    code_by (EntityUID × (Fields × (List EntityUID × Fields)))
    (coded× coded_uid (coded× coded_fields (coded× (coded_list coded_uid) coded_fields)))
    (λ e. (e.uid, (e.attrs, (e.ancestors, e.tags))))
    (λ p. record { uid = p.0; attrs = p.1.0; ancestors = p.1.1.0; tags = p.1.1.1 })
    (λ _. refl)

-- a store: entities, ascending by id
abbrev pub Store : Type 0
Store = List StoredEntity

-- whether the entity has the id
abbrev pub is_named : EntityUID → StoredEntity → Bool
is_named uid e = is_eq (uid_cmp uid e.uid)

-- the entity with the id, where there is one
abbrev pub entity_at : Store → EntityUID → Option StoredEntity
entity_at entities uid = find (is_named uid) entities
