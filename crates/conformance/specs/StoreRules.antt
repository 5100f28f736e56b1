-- The rules of stores, and the first that an entity breaks.
use Rattle.std.specs.Prelude.{◌≡◌, ℕ, Bool, true, false, not, ◌&&◌, ◌||◌, List, [], ◌∷◌, Option, Some, None, is_some, IsSome, option_map, if◌then◌else◌}
use Rattle.std.specs.Option.{option_or, option_and_then, option_map_or}
use Rattle.std.specs.List.{list_all}
use Rattle.policy_values.specs.Reaches.{has}
use Rattle.policy_values.specs.declared.entity_uid.EntityUID.{EntityUID}
use Rattle.policy_values.specs.Uid.{text_cmp, uid_cmp}
use Rattle.policy_values.specs.Basename.{is_action_type}
use Rattle.policy_values.specs.Value.{Val, Fields, no_fields, field}
use Rattle.entity_store.specs.Store.{StoredEntity, Store, entity_at}
use Rattle.schema_types.specs.declared.ty.AttributeType.{AttributeType}
use Rattle.schema_types.specs.Attrs.{attr_at}
use Rattle.schema_types.specs.Ty.{Ty, Attrs}
use Rattle.schema_core.specs.Kinds.{attributes_in, tags_in}
use Rattle.schema_core.specs.Schema.{SchemaData, TypeData, ActionData, type_at, action_at, type_below, action_below}
use Rattle.typing_spec.specs.Conforms.{is_listed, lists_ids}
use Rattle.conformance.specs.Misfits.{misfit, first_missing}
use Rattle.conformance.specs.RequestRules.{unless}
use Rattle.conformance.specs.declared.store_rule.ConformanceError.{ConformanceError}
use Rattle.conformance.specs.declared.store_rule.ConformanceError.TheVariants as refused
use Rattle.conformance.specs.declared.store_rule.StoreRule.{StoreRule}
use Rattle.conformance.specs.declared.store_rule.StoreRule.TheVariants.{TypeNotDeclared, IdNotListed, AttributeNotDeclared, AttributeOfAnotherType, AttributeHoldsUnlistedId, RequiredAttributeMissing, TagsNotAllowed, TagOfAnotherType, TagHoldsUnlistedId, AncestorNotAllowed, AncestorNotListed, ActionNotDeclared, ActionHasAttributes, ActionHasTags, ActionAncestorsDiffer}

-- the least key of fields
abbrev pub first_key : Fields → Option (List ℕ)
first_key no_fields = None
first_key (field k v fs) = Some k

-- the value is of the type, whatever functions there are
abbrev pub is_of : Ty → Val → Bool
is_of t v = not (is_some (misfit (λ _. true) t v))

-- the first of the fields that breaks a rule
abbrev pub first_broken : (List ℕ → Val → Option StoreRule) → Fields → Option StoreRule
first_broken rule no_fields = None
first_broken rule (field k v fs) = option_or (rule k v) (first_broken rule fs)

-- the action is an ancestor of the entity where the entity's action is a descendant of it
abbrev pub is_ancestor_if_above : StoredEntity → ActionData → Bool
is_ancestor_if_above e a = not (has uid_cmp a.descendants e.uid) || has uid_cmp e.ancestors a.name

module _ (schema : SchemaData) where
  -- an attribute is declared, of its type, and holds listed ids alone
  abbrev pub declared_fault : List ℕ → Val → AttributeType → Option StoreRule
  declared_fault k v a = option_or (unless (is_of a.attr_type v) (AttributeOfAnotherType k))
      (unless (lists_ids schema v) (AttributeHoldsUnlistedId k))

  abbrev pub attribute_fault : Attrs → List ℕ → Val → Option StoreRule
  attribute_fault xs k v = option_map_or (declared_fault k v) (attr_at xs k) (Some (AttributeNotDeclared k))

  -- a tag is of the type of tags, and holds listed ids alone
  abbrev pub tag_fault : Ty → List ℕ → Val → Option StoreRule
  tag_fault t k v =
      option_or (unless (is_of t v) (TagOfAnotherType k)) (unless (lists_ids schema v) (TagHoldsUnlistedId k))

  -- the first rule that tags break: there is a type of tags, and each is of it
  abbrev pub tags_fault : Option Ty → Fields → Option StoreRule
  tags_fault None fs = option_map (λ _. TagsNotAllowed) (first_key fs)
  tags_fault (Some t) fs = first_broken (tag_fault t) fs

  -- an ancestor is of a type that the entity's may stand below, and is listed
  abbrev pub ancestor_fault : List ℕ → EntityUID → Option StoreRule
  ancestor_fault ty above =
      option_or (unless (type_below schema ty above.entity_type) (AncestorNotAllowed above))
      (unless (is_listed schema above) (AncestorNotListed above))

  -- the first ancestor that breaks a rule
  abbrev pub ancestors_fault : List ℕ → List EntityUID → Option StoreRule
  ancestors_fault ty [] = None
  ancestors_fault ty (u ∷ us) = option_or (ancestor_fault ty u) (ancestors_fault ty us)

  -- behind the rules of single attributes: none that is required is missing; then the rules of tags, and of
  -- ancestors
  abbrev pub further_fault : StoredEntity → TypeData → Option StoreRule
  further_fault e t =
      option_or (option_map RequiredAttributeMissing (first_missing (attributes_in t.kind) e.attrs))
      (option_or (tags_fault (tags_in t.kind) e.tags)
      (ancestors_fault e.uid.entity_type e.ancestors))

  -- the first rule that an entity of a declared type breaks: of its id, of its attributes, and then those
  abbrev pub declared_entity_fault : StoredEntity → TypeData → Option StoreRule
  declared_entity_fault e t =
      option_or (unless (is_listed schema e.uid) IdNotListed)
      (option_or (first_broken (attribute_fault (attributes_in t.kind)) e.attrs)
      (further_fault e t))

  -- the first rule that an entity breaks that is no action's
  abbrev pub typed_entity_fault : StoredEntity → Option StoreRule
  typed_entity_fault e =
      option_map_or (declared_entity_fault e) (type_at schema e.uid.entity_type) (Some TypeNotDeclared)

  -- each action of which the entity's action is a descendant is an ancestor of the entity
  abbrev pub has_all_ancestors : StoredEntity → Bool
  has_all_ancestors e = list_all (is_ancestor_if_above e) schema.action_ids

  -- the ancestors of the entity are those of its action: none is missing, and there is no other
  abbrev pub has_its_ancestors : StoredEntity → Bool
  has_its_ancestors e = list_all (action_below schema e.uid) e.ancestors && has_all_ancestors e

  -- the first rule that an action's entity breaks: the action is declared, the entity has no attributes and
  -- no tags, and its ancestors are those of the action
  abbrev pub action_entity_fault : StoredEntity → Option StoreRule
  action_entity_fault e =
      option_or (unless (is_some (action_at schema e.uid)) ActionNotDeclared)
      (option_or (option_map (λ _. ActionHasAttributes) (first_key e.attrs))
      (option_or (option_map (λ _. ActionHasTags) (first_key e.tags))
      (unless (has_its_ancestors e) ActionAncestorsDiffer)))

  -- the first rule that an entity breaks
  abbrev pub entity_fault : StoredEntity → Option StoreRule
  entity_fault e = if is_action_type e.uid.entity_type then action_entity_fault e else typed_entity_fault e

  -- the first entity that breaks a rule, and the first rule that it breaks
  abbrev pub first_store_fault : Store → Option (EntityUID × StoreRule)
  first_store_fault [] = None
  first_store_fault (e ∷ es) =
      option_or (option_map (λ rule. (e.uid, rule)) (entity_fault e)) (first_store_fault es)

-- the entity of an action with the id lacks the action as an ancestor
abbrev pub lacks_it : Store → ActionData → EntityUID → Bool
lacks_it s a uid = option_map_or
    (λ e. is_action_type uid.entity_type && not (has uid_cmp e.ancestors a.name)) (entity_at s uid) false

-- the entity of an action with the id lacks one of these actions of which its action is a descendant
abbrev pub lacks : List ActionData → Store → EntityUID → Bool
lacks actions s uid =
    option_map_or (λ e. is_action_type uid.entity_type && not (list_all (is_ancestor_if_above e) actions))
    (entity_at s uid) false

-- the error names this entity and this rule. Memory is wanted only where there is a fault
abbrev pub IsConformanceFault : Option (EntityUID × StoreRule) → ConformanceError → Type 0
IsConformanceFault fault (refused.EntityDoesNotConform e) = fault ≡ Some (e.uid, e.rule)
IsConformanceFault fault refused.OutOfMemory = IsSome fault
