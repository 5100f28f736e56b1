-- What a document declares, as plain data.
use Rattle.std.specs.Prelude.{ℕ, List, refl}
use Rattle.std.specs.Coded.{Coded, coded×, coded_ℕ, coded_list, code_by}
use Rattle.policy_values.specs.declared.entity_uid.EntityUID.{EntityUID}
use Rattle.policy_values.specs.Uid.{coded_uid}
use Rattle.schema_types.specs.Ty.{Attrs}
use Rattle.schema_types.specs.TyCode.{coded_attrs}
use Rattle.schema_core.specs.Kinds.{Kind}
use Rattle.schema_core.specs.KindCode.{coded_kind, coded_names}

-- an entity type, the types that it is a member of, and what it is
pub record TypeEntry : Type 0 where
  pub name : List ℕ
  pub member_of : List (List ℕ)
  pub kind : Kind

-- an action, the types of principals and of resources that it applies to, the actions that it is a member of,
-- and the attributes of its context
pub record ActionEntry : Type 0 where
  pub id : EntityUID
  pub principals : List (List ℕ)
  pub resources : List (List ℕ)
  pub member_of : List EntityUID
  pub context : Attrs

pub record Declarations : Type 0 where
  pub entity_types : List TypeEntry
  pub actions : List ActionEntry

-- each is stored as the tuple of its parts
abbrev pub coded_type_entry : Coded TypeEntry
coded_type_entry =
    code_by (List ℕ × (List (List ℕ) × Kind))
    (coded× (coded_list coded_ℕ) (coded× coded_names coded_kind))
    (λ t. (t.name, (t.member_of, t.kind)))
    (λ p. record { name = p.0; member_of = p.1.0; kind = p.1.1 })
    (λ _. refl)

abbrev pub coded_action_entry : Coded ActionEntry
coded_action_entry =
    code_by (EntityUID × (List (List ℕ) × (List (List ℕ) × (List EntityUID × Attrs))))
    (coded× coded_uid (coded× coded_names (coded× coded_names (coded× (coded_list coded_uid) coded_attrs))))
    (λ a. (a.id, (a.principals, (a.resources, (a.member_of, a.context)))))
    (λ p.
    record { id = p.0; principals = p.1.0; resources = p.1.1.0; member_of = p.1.1.1.0; context = p.1.1.1.1 })
    (λ _. refl)

abbrev pub coded_declarations : Coded Declarations
coded_declarations =
    code_by (List TypeEntry × List ActionEntry)
    (coded× (coded_list coded_type_entry) (coded_list coded_action_entry))
    (λ d. (d.entity_types, d.actions))
    (λ p. record { entity_types = p.0; actions = p.1 })
    (λ _. refl)
