-- A schema as a document declares it: types and actions, each with those that it is a member of.
use Rattle.std.specs.Prelude.{⊤, ℕ, false, List, Option, IsTrue, is_some, map, find, option_map}
use Rattle.std.specs.Ordering.{is_eq}
use Rattle.std.specs.Option.{option_map_or}
use Rattle.policy_values.specs.declared.entity_uid.EntityUID.{EntityUID}
use Rattle.policy_values.specs.Uid.{text_cmp, uid_cmp}
use Rattle.policy_values.specs.Least.{IsLeast}
use Rattle.policy_values.specs.Repeated.{IsRepeated}
use Rattle.policy_values.specs.Reaches.{has, Reaches}
use Rattle.schema_core.specs.Schema.{SchemaData}
use Rattle.schema_core.specs.Outline.{Outline, outline_of, HasSoundNames, HasSoundTypes, HasDescendants, IsListingEnum}
use Rattle.schema_core.specs.Entries.{TypeEntry, ActionEntry, Declarations}
use Rattle.schema_core.specs.Faults.{Nowhere, IsSchema, IsNameFault, IsTypeFault}
use Rattle.schema_core.specs.declared.fault.SchemaFault.{SchemaFault}
use Rattle.schema_core.specs.declared.fault.SchemaFault.TheVariants.{DuplicateAction, ActionCycle, EnumHasAncestor, BadType, BadContext, UnknownExtension, OutOfMemory}

module _ (d : Declarations) where
  -- the declaration of the type, of the action
  abbrev pub type_entry_at : List ℕ → Option TypeEntry
  type_entry_at name = find (λ t. is_eq (text_cmp name t.name)) d.entity_types

  abbrev pub action_entry_at : EntityUID → Option ActionEntry
  action_entry_at uid = find (λ a. is_eq (uid_cmp uid a.id)) d.actions

-- the outline of declarations lists what a type or an action is declared to be a member of
abbrev pub declared_outline : Declarations → Outline
declared_outline d = record {
  has_type = λ x. is_some (type_entry_at d x);
  type_lists = λ x y. option_map_or (λ t. has text_cmp t.member_of y) (type_entry_at d x) false;
  has_action = λ u. is_some (action_entry_at d u);
  action_lists = λ u v. option_map_or (λ a. has uid_cmp a.member_of v) (action_entry_at d u) false;
  principal_lists = λ u y. option_map_or (λ a. has text_cmp a.principals y) (action_entry_at d u) false;
  resource_lists = λ u y. option_map_or (λ a. has text_cmp a.resources y) (action_entry_at d u) false;
  kind_at = λ x. option_map (λ t. t.kind) (type_entry_at d x);
  context_at = λ u. option_map (λ a. a.context) (action_entry_at d u);
}

module _ (d : Declarations) where
  -- the action is declared twice
  abbrev pub IsDeclaredTwice : EntityUID → Type 0
  IsDeclaredTwice = IsRepeated (map (λ a. a.id) d.actions)

  -- the action is its own member, by one or more steps
  abbrev pub IsInCycle : EntityUID → Type 0
  IsInCycle u = Reaches (λ v w. IsTrue ((declared_outline d).action_lists v w)) u u

-- s is the schema that the declarations give: they keep all rules, and the descendants of a type or an action
-- are all its members
pub record IsSchemaOf (d : Declarations) (s : SchemaData) : Type 0 where
  pub once : Nowhere (IsDeclaredTwice d)
  pub names : HasSoundNames (declared_outline d)
  pub no_cycle : Nowhere (IsInCycle d)
  -- no enumerated type is a member of another
  pub no_enum : Nowhere (IsListingEnum (declared_outline d))
  pub types : HasSoundTypes (declared_outline d)
  pub schema : IsSchema s
  pub descendants : HasDescendants (declared_outline d) (outline_of s)

-- the rules before those about descendants are kept
abbrev pub HasOnceNamed : Declarations → Type 0
HasOnceNamed d = Nowhere (IsDeclaredTwice d) × HasSoundNames (declared_outline d)

-- those about descendants too
abbrev pub HasMembers : Declarations → Type 0
HasMembers d = HasOnceNamed d × Nowhere (IsInCycle d) × Nowhere (IsListingEnum (declared_outline d))

-- why the declarations give no schema: the first rule that is broken, with the least name
abbrev pub IsRefused : Declarations → SchemaFault → Type 0
IsRefused d (DuplicateAction u) = IsLeast uid_cmp (IsDeclaredTwice d) u
IsRefused d (ActionCycle u) = HasOnceNamed d × IsLeast uid_cmp (IsInCycle d) u
IsRefused d (EnumHasAncestor x) =
    HasOnceNamed d × Nowhere (IsInCycle d) × IsLeast text_cmp (IsListingEnum (declared_outline d)) x
IsRefused d (BadType x) = HasMembers d × IsTypeFault (declared_outline d) (BadType x)
IsRefused d (BadContext u) = HasMembers d × IsTypeFault (declared_outline d) (BadContext u)
IsRefused d (UnknownExtension n) = HasMembers d × IsTypeFault (declared_outline d) (UnknownExtension n)
IsRefused d OutOfMemory = ⊤
IsRefused d fault = Nowhere (IsDeclaredTwice d) × IsNameFault (declared_outline d) fault
