-- What a schema says of its entity types, actions and contexts.
use Rattle.std.specs.Prelude.{ℕ, List, Option, Some, None, map, refl}
use Rattle.std.specs.List.{filter}
use Rattle.std.specs.Coded.{Coded, coded×, coded_ℕ, coded_list, coded_option, code_by}
use Rattle.policy_values.specs.declared.entity_uid.EntityUID.{EntityUID}
use Rattle.entity_store.specs.Store.{StoredEntity}
use Rattle.schema_types.specs.declared.kinds.OpenTag.TheVariants.{ClosedAttributes}
use Rattle.schema_types.specs.Ty.{Ty, Attrs, record_of}
use Rattle.schema_types.specs.TyCode.{coded_ty, coded_attrs}
use Rattle.policy_validate.specs.Descriptions.{TypeDescription, ActionDescription}
use Rattle.schema_core.specs.Kinds.{Kind, standard, enumerated, attributes_in, tags_in}
use Rattle.schema_core.specs.Schema.{SchemaData, TypeData, ActionData, type_below, action_below}

-- the ids that an enumerated type lists
abbrev pub listed_in : Kind → Option (List (List ℕ))
listed_in (standard xs t) = None
listed_in (enumerated ids) = Some ids

-- a type as it is described, with the types whose entities may be ancestors of its own
abbrev pub description_of : TypeData → List (List ℕ) → TypeDescription
description_of t parents = record {
  name = t.name;
  eids = listed_in t.kind;
  attrs = attributes_in t.kind;
  tags = tags_in t.kind;
  parents = parents;
}

module _ (s : SchemaData) where
  -- the declared types whose entities may be ancestors of the type's
  abbrev pub parents_of : List ℕ → List (List ℕ)
  parents_of name = filter (type_below s name) (map (λ t. t.name) s.entity_types)

  -- the declared actions that the action is in
  abbrev pub ancestors_of : EntityUID → List EntityUID
  ancestors_of uid = filter (action_below s uid) (map (λ a. a.name) s.action_ids)

  -- a type, an action, as the schema describes it
  abbrev pub described_type : TypeData → TypeDescription
  described_type t = description_of t (parents_of t.name)

  abbrev pub described_action : ActionData → ActionDescription
  described_action a = record { uid = a.name; ancestors = ancestors_of a.name }

  -- all of them
  abbrev pub described_types : List TypeDescription
  described_types = map described_type s.entity_types

  abbrev pub described_actions : List ActionDescription
  described_actions = map described_action s.action_ids

-- what the entity of an action says of it
abbrev pub action_of : StoredEntity → ActionDescription
action_of e = record { uid = e.uid; ancestors = e.ancestors }

-- the type of the contexts of an action: records with its attributes and no others
abbrev pub context_of : ActionData → Ty
context_of a = record_of a.context ClosedAttributes

-- a description is stored as the tuple of its parts
abbrev pub coded_description : Coded TypeDescription
coded_description =
    code_by (List ℕ × (Option (List (List ℕ)) × (Attrs × (Option Ty × List (List ℕ)))))
    (coded× (coded_list coded_ℕ) (coded× (coded_option (coded_list (coded_list coded_ℕ)))
    (coded× coded_attrs (coded× (coded_option coded_ty) (coded_list (coded_list coded_ℕ))))))
    (λ d. (d.name, (d.eids, (d.attrs, (d.tags, d.parents)))))
    (λ p. record { name = p.0; eids = p.1.0; attrs = p.1.1.0; tags = p.1.1.1.0; parents = p.1.1.1.1 })
    (λ _. refl)
