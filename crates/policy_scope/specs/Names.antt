-- What is found of the names in a condition: types and actions that are not declared, and ids that their
-- enumerated types do not list.
use Rattle.std.specs.Prelude.{◌||◌, Bool, ℕ, List, [], ◌∷◌, ◌++◌, Option, Some, None, map, fold, find, option_map, option_to_list, codes, eqb, if◌then◌else◌}
use Rattle.std.specs.List.{filter_map, starts_with}
use Rattle.std.specs.Option.{option_cmp, option_and_then}
use Rattle.std.specs.Ordering.{nat_cmp, ordering_then}
use Rattle.std.specs.declared.cmp.Ordering.{Ordering}
use Rattle.policy_values.specs.Reaches.{has}
use Rattle.policy_values.specs.declared.entity_uid.EntityUID.{EntityUID}
use Rattle.policy_values.specs.Uid.{text_cmp, uid_cmp}
use Rattle.policy_expressions.specs.declared.kinds.Loc.{Loc}
use Rattle.policy_expressions.specs.Plain.{Plain}
use Rattle.policy_set.specs.Data.{LinkData, PolicyData}
use Rattle.schema_core.specs.Kinds.{Kind, standard, enumerated}
use Rattle.schema_core.specs.Schema.{SchemaData, ActionData, type_at}
use Rattle.findings.specs.Mentioned.{Mentioned, an_id, a_type, type_of, names_in, is_known_type, is_known_action}
use Rattle.findings.specs.declared.rules.UnrecognizedEntityType.{UnrecognizedEntityType}
use Rattle.findings.specs.declared.rules.UnrecognizedActionId.{UnrecognizedActionId}
use Rattle.findings.specs.declared.rules.InvalidEnumEntity.{InvalidEnumEntity}
use Rattle.findings.specs.declared.rules.UnrecognizedActionIdHelp.{UnrecognizedActionIdHelp}
use Rattle.findings.specs.declared.rules.UnrecognizedActionIdHelp.TheVariants.{AvoidActionTypeInActionId}

module _ {X : Type 0} (cmp : X → X → Ordering) where
  -- the items with one more, unless they have it
  abbrev pub with_new : List X → X → List X
  with_new kept x = if has cmp kept x then kept else kept ++ x ∷ []

  -- the items of the list, each once, at its first place
  abbrev pub distinct : List X → List X
  distinct xs = fold with_new [] xs

abbrev pub loc_cmp : Loc → Loc → Ordering
loc_cmp a b = ordering_then (nat_cmp a.start b.start) (nat_cmp a.end b.end)

-- two findings are the same one where they name the same at the same place. Those of one policy stand in the
-- order of its literals
abbrev pub entity_type_cmp : UnrecognizedEntityType → UnrecognizedEntityType → Ordering
entity_type_cmp a b = ordering_then (text_cmp a.actual_entity_type b.actual_entity_type)
    (option_cmp loc_cmp a.source_loc b.source_loc)

abbrev pub action_id_cmp : UnrecognizedActionId → UnrecognizedActionId → Ordering
action_id_cmp a b = ordering_then (uid_cmp a.actual_action_id b.actual_action_id)
    (option_cmp loc_cmp a.source_loc b.source_loc)

abbrev pub enum_cmp : InvalidEnumEntity → InvalidEnumEntity → Ordering
enum_cmp a b = ordering_then (uid_cmp a.err.uid b.err.uid) (option_cmp loc_cmp a.source_loc b.source_loc)

-- what is found of a name's type: that it is not known
abbrev pub entity_type_finding : SchemaData → List ℕ → Mentioned × Option Loc → Option UnrecognizedEntityType
entity_type_finding schema policy m =
    if is_known_type schema (type_of m.0) then None
    else Some (record { source_loc = m.1; policy_id = policy; actual_entity_type = type_of m.0 })

-- all types that are not known, in a condition of the policy
abbrev pub entity_type_findings : SchemaData → List ℕ → Plain → List UnrecognizedEntityType
entity_type_findings schema policy condition =
    distinct entity_type_cmp (filter_map (entity_type_finding schema policy) (names_in condition))

-- the ids that a link gives for the slots of its template, the principal's first
abbrev pub ids_given : Option LinkData → List EntityUID
ids_given None = []
ids_given (Some l) = option_to_list l.values.principal ++ option_to_list l.values.resource

-- all types of these ids that are not known; they stand at no place
abbrev pub slot_type_findings : SchemaData → PolicyData → List UnrecognizedEntityType
slot_type_findings schema p = distinct entity_type_cmp
    (filter_map (entity_type_finding schema p.id) (map (λ uid. (an_id uid, None)) (ids_given p.link)))

-- the text stands somewhere in the other
abbrev pub occurs_in : List ℕ → List ℕ → Bool
occurs_in part [] = starts_with eqb [] part
occurs_in part (c ∷ cs) = starts_with eqb (c ∷ cs) part || occurs_in part cs

-- the action's eid has in it the eid of the other with the type of actions before it
abbrev pub repeats_type : EntityUID → ActionData → Bool
repeats_type uid a = occurs_in (codes "Action::" ++ uid.eid) a.name.eid ||
    occurs_in (codes "Action::\"" ++ uid.eid ++ codes "\"") a.name.eid

-- the least action whose eid repeats the type of actions, where there is one
abbrev pub action_id_hint : SchemaData → EntityUID → Option UnrecognizedActionIdHelp
action_id_hint schema uid =
    option_map (λ a. AvoidActionTypeInActionId a.name) (find (repeats_type uid) schema.action_ids)

-- what is found of an id: that it is of an action which is not declared
abbrev pub unknown_action : SchemaData → List ℕ → EntityUID → Option Loc → Option UnrecognizedActionId
unknown_action schema policy uid loc =
    if is_known_action schema uid then None
    else Some (record {
      source_loc = loc;
      policy_id = policy;
      actual_action_id = uid;
      hint = action_id_hint schema uid;
    })

-- what is found of a name; a type alone names no action
abbrev pub action_id_finding : SchemaData → List ℕ → Mentioned × Option Loc → Option UnrecognizedActionId
action_id_finding schema policy m = of_name m.0 where
  of_name : Mentioned → Option UnrecognizedActionId
  of_name (an_id uid) = unknown_action schema policy uid m.1
  of_name (a_type ty) = None

-- all actions that are not declared, in a condition of the policy
abbrev pub action_id_findings : SchemaData → List ℕ → Plain → List UnrecognizedActionId
action_id_findings schema policy condition =
    distinct action_id_cmp (filter_map (action_id_finding schema policy) (names_in condition))

-- the ids that a type lists, where it is enumerated
abbrev pub choices_in : Kind → Option (List (List ℕ))
choices_in (enumerated ids) = Some ids
choices_in (standard xs t) = None

-- the ids that the id's type lists, where it does not list this one
abbrev pub others_listed : EntityUID → List (List ℕ) → Option (List (List ℕ))
others_listed uid choices = if has text_cmp choices uid.eid then None else Some choices

abbrev pub choices_without : SchemaData → EntityUID → Option (List (List ℕ))
choices_without schema uid = option_and_then (others_listed uid)
    (option_and_then (λ t. choices_in t.kind) (type_at schema uid.entity_type))

-- what is found of a name: that its type does not list it; a type alone is none that is listed
abbrev pub enum_finding : SchemaData → List ℕ → Mentioned × Option Loc → Option InvalidEnumEntity
enum_finding schema policy m = of_name m.0 where
  of_name : Mentioned → Option InvalidEnumEntity
  of_name (an_id uid) = option_map
      (λ choices.
      record { source_loc = m.1; policy_id = policy; err = record { uid = uid; choices = choices } })
      (choices_without schema uid)
  of_name (a_type ty) = None

-- all ids that their types do not list, in a condition of the policy
abbrev pub enum_findings : SchemaData → List ℕ → Plain → List InvalidEnumEntity
enum_findings schema policy condition =
    distinct enum_cmp (filter_map (enum_finding schema policy) (names_in condition))
