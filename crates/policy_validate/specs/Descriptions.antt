-- What a schema says of entity types, actions and contexts, as plain data.
use Rattle.std.specs.Prelude.{ℕ, true, false, List, [], ◌∷◌, Option, find, map}
use Rattle.std.specs.List.{filter}
use Rattle.std.specs.Option.{option_map}
use Rattle.std.specs.Ordering.{is_eq}
use Rattle.std.specs.Str.{bytes_eq}
use Rattle.policy_values.specs.declared.entity_uid.EntityUID.{EntityUID}
use Rattle.policy_values.specs.Basename.{basename_of}
use Rattle.policy_values.specs.Uid.{text_cmp, uid_cmp}
use Rattle.schema_types.specs.Attrs.{attr_at}
use Rattle.schema_types.specs.Ty.{Ty, Attrs, no_attrs, attr}

-- an entity type: its name; the eids that it lists, where it is enumerated; its attributes, and the type of
-- its tags, where it has tags; the types whose entities may be ancestors of its own
pub record TypeDescription : Type 0 where
  pub name : List ℕ
  pub eids : Option (List (List ℕ))
  pub attrs : Attrs
  pub tags : Option Ty
  pub parents : List (List ℕ)

-- an action: its id, and the actions that it is in
pub record ActionDescription : Type 0 where
  pub uid : EntityUID
  pub ancestors : List EntityUID

-- the type of an attribute, where there is one
abbrev pub attr_type_at : Attrs → List ℕ → Option Ty
attr_type_at xs n = option_map (λ a. a.attr_type) (attr_at xs n)

-- the keys of the attributes that are required
abbrev pub required_keys : Attrs → List (List ℕ)
required_keys no_attrs = []
required_keys (attr k t true xs) = k ∷ required_keys xs
required_keys (attr k t false xs) = required_keys xs

-- the entity type of a name, the action of an id, where they are declared
abbrev pub type_described : List TypeDescription → List ℕ → Option TypeDescription
type_described ds name = find (λ d. is_eq (text_cmp name d.name)) ds

abbrev pub action_described : List ActionDescription → EntityUID → Option ActionDescription
action_described ds uid = find (λ d. is_eq (uid_cmp uid d.uid)) ds

-- the names with that basename
abbrev pub with_basename : List ℕ → List TypeDescription → List (List ℕ)
with_basename basename ds = filter (λ name. bytes_eq basename (basename_of name)) (map (λ d. d.name) ds)
