-- A schema as plain data: entity types and actions, each in ascending order of its names.
use Rattle.std.specs.Prelude.{◌↔◌, ◌⊎◌, ℕ, Bool, false, List, Option, IsSome, IsTrue, IsSomeAnd, Contains, find, refl}
use Rattle.std.specs.Coded.{Coded, coded×, coded_ℕ, coded_list, code_by}
use Rattle.std.specs.BTreeSet.{BTreeSet}
use Rattle.std.specs.Ordering.{is_eq}
use Rattle.std.specs.Option.{option_map_or}
use Rattle.policy_values.specs.Reaches.{has}
use Rattle.policy_values.specs.declared.entity_uid.EntityUID.{EntityUID}
use Rattle.policy_values.specs.Basename.{is_action_type}
use Rattle.policy_values.specs.Uid.{text_cmp, uid_cmp, coded_uid}
use Rattle.schema_types.specs.Ty.{Attrs}
use Rattle.schema_types.specs.TyCode.{coded_attrs}
use Rattle.schema_core.specs.Kinds.{Kind}
use Rattle.schema_core.specs.KindCode.{coded_kind, coded_names}

-- an entity type: its name, the types whose entities may have entities of it as ancestors, and what it is
pub record TypeData : Type 0 where
  pub name : List ℕ
  pub descendants : List (List ℕ)
  pub kind : Kind

-- an action: its id, the types of the principals and of the resources that it applies to, the actions that
-- are in it, and the attributes of the context that it is asked for in
pub record ActionData : Type 0 where
  pub name : EntityUID
  pub principals : List (List ℕ)
  pub resources : List (List ℕ)
  pub descendants : List EntityUID
  pub context : Attrs

pub record SchemaData : Type 0 where
  pub entity_types : List TypeData
  pub action_ids : List ActionData

-- of these types and actions
abbrev pub made_of : List TypeData → List ActionData → SchemaData
made_of types actions = record { entity_types = types; action_ids = actions }

-- each is stored as the tuple of its parts
abbrev pub coded_type : Coded TypeData
coded_type =
    code_by (List ℕ × (List (List ℕ) × Kind))
    (coded× (coded_list coded_ℕ) (coded× coded_names coded_kind))
    (λ t. (t.name, (t.descendants, t.kind)))
    (λ p. record { name = p.0; descendants = p.1.0; kind = p.1.1 })
    (λ _. refl)

abbrev pub coded_action : Coded ActionData
coded_action =
    code_by (EntityUID × (List (List ℕ) × (List (List ℕ) × (List EntityUID × Attrs))))
    (coded× coded_uid (coded× coded_names (coded× coded_names (coded× (coded_list coded_uid) coded_attrs))))
    (λ a. (a.name, (a.principals, (a.resources, (a.descendants, a.context)))))
    (λ p. record {
      name = p.0;
      principals = p.1.0;
      resources = p.1.1.0;
      descendants = p.1.1.1.0;
      context = p.1.1.1.1;
    })
    (λ _. refl)

abbrev pub coded_schema : Coded SchemaData
coded_schema =
    code_by (List TypeData × List ActionData)
    (coded× (coded_list coded_type) (coded_list coded_action))
    (λ s. (s.entity_types, s.action_ids))
    (λ p. record { entity_types = p.0; action_ids = p.1 })
    (λ _. refl)

-- whether the entity type, the action, is the one with the name
abbrev pub is_type_named : List ℕ → TypeData → Bool
is_type_named name t = is_eq (text_cmp name t.name)

abbrev pub is_action_named : EntityUID → ActionData → Bool
is_action_named uid a = is_eq (uid_cmp uid a.name)

module _ (s : SchemaData) where
  -- the entity type with the name, the action with the id
  abbrev pub type_at : List ℕ → Option TypeData
  type_at name = find (is_type_named name) s.entity_types

  abbrev pub action_at : EntityUID → Option ActionData
  action_at uid = find (is_action_named uid) s.action_ids

  -- the type, the action, is declared
  abbrev pub IsDeclaredType : List ℕ → Type 0
  IsDeclaredType name = IsSome (type_at name)

  abbrev pub IsDeclaredAction : EntityUID → Type 0
  IsDeclaredAction uid = IsSome (action_at uid)

  -- the type is declared, or is a type of actions
  abbrev pub IsKnownType : List ℕ → Type 0
  IsKnownType name = IsDeclaredType name ⊎ IsTrue (is_action_type name)

  -- entities of the type `below` may have ancestors of the type `name`
  abbrev pub HasTypeDescendant : List ℕ → List ℕ → Type 0
  HasTypeDescendant name below = IsSomeAnd (type_at name) (λ t. Contains t.descendants below)

  -- the action `below` is in the action `uid`
  abbrev pub HasActionDescendant : EntityUID → EntityUID → Type 0
  HasActionDescendant uid below = IsSomeAnd (action_at uid) (λ a. Contains a.descendants below)

  -- one of the actions is not declared
  abbrev pub HasUndeclaredAction : List EntityUID → Type 0
  HasUndeclaredAction uids = (u : EntityUID) × Contains uids u × (¬ IsDeclaredAction u)

  -- the actions are declared, and the set has exactly them and their descendants
  abbrev pub AreActionsInSet : List EntityUID → BTreeSet EntityUID → Type 0
  AreActionsInSet uids actions =
      ((u : EntityUID) → Contains uids u → IsDeclaredAction u)
      × ((q : EntityUID) → Contains actions.keys q ↔
      (Contains uids q ⊎ ((u : EntityUID) × Contains uids u × HasActionDescendant u q)))

  -- the same, as tests: the type, the action, is among the descendants of the other
  abbrev pub type_below : List ℕ → List ℕ → Bool
  type_below name above = option_map_or (λ t. has text_cmp t.descendants name) (type_at above) false

  abbrev pub action_below : EntityUID → EntityUID → Bool
  action_below uid above = option_map_or (λ a. has uid_cmp a.descendants uid) (action_at above) false

  -- the action applies to principals of the type, to resources of the type
  abbrev pub AppliesToPrincipal : EntityUID → List ℕ → Type 0
  AppliesToPrincipal uid name = IsSomeAnd (action_at uid) (λ a. Contains a.principals name)

  abbrev pub AppliesToResource : EntityUID → List ℕ → Type 0
  AppliesToResource uid name = IsSomeAnd (action_at uid) (λ a. Contains a.resources name)
