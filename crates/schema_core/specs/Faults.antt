-- What a schema keeps, and why there is none: the first rule that is broken, with the least name that
-- breaks it.
use Rattle.std.specs.Prelude.{◌≡◌, ⊤, List, All, map}
use Rattle.std.specs.List.Sorted.{IsStrictlySortedBy}
use Rattle.policy_values.specs.declared.entity_uid.EntityUID.{EntityUID}
use Rattle.policy_values.specs.Uid.{text_cmp, uid_cmp}
use Rattle.policy_values.specs.Least.{IsLeast}
use Rattle.policy_values.specs.Repeated.{IsRepeated}
use Rattle.schema_core.specs.Schema.{ActionData, SchemaData}
use Rattle.schema_core.specs.Outline.{Outline, outline_of, HasSoundNames, IsClosed, HasSoundTypes, IsDeclaredActionType, IsEmptyEnum, IsNoAction, IsUndeclaredType, IsUndeclaredAction, IsOwnMember, IsListedEnum, IsOpenType, IsOpenAction, IsBadType, IsBadContext, IsUnknownExtension}
use Rattle.schema_core.specs.declared.fault.SchemaFault.{SchemaFault}
use Rattle.schema_core.specs.declared.fault.SchemaFault.TheVariants.{DuplicateAction, ActionTypeDeclared, EmptyEnum, NotAnAction, UndeclaredType, UndeclaredAction, ActionCycle, EnumHasAncestor, NotClosed, ActionNotClosed, BadType, BadContext, UnknownExtension, OutOfMemory}

-- the lists of names ascend
pub record HasSets (a : ActionData) : Type 0 where
  pub principals : IsStrictlySortedBy text_cmp a.principals
  pub resources : IsStrictlySortedBy text_cmp a.resources
  pub descendants : IsStrictlySortedBy uid_cmp a.descendants

-- what every schema keeps
pub record IsSchema (s : SchemaData) : Type 0 where
  -- no type and no action is declared twice, and both ascend
  pub types_ascend : IsStrictlySortedBy text_cmp (map (λ t. t.name) s.entity_types)
  pub actions_ascend : IsStrictlySortedBy uid_cmp (map (λ a. a.name) s.action_ids)
  -- all lists of names ascend
  pub type_sets : All (λ t. IsStrictlySortedBy text_cmp t.descendants) s.entity_types
  pub action_sets : All HasSets s.action_ids
  -- what is named is declared, types have no basename of actions, and actions have it; enumerated types
  -- list ids
  pub names : HasSoundNames (outline_of s)
  -- descendants are transitive, no action is its own, and no enumerated type is one
  pub closed : IsClosed (outline_of s)
  -- attributes, tags and contexts are of types that a schema may hold
  pub types : HasSoundTypes (outline_of s)

-- nothing breaks the rule
abbrev pub Nowhere : {K : Type 0} → (K → Type 0) → Type 0
Nowhere {K} P = (k : K) → ¬ P k

-- the first rule about names that is broken, with the least name
abbrev pub IsNameFault : Outline → SchemaFault → Type 0
IsNameFault o (ActionTypeDeclared x) = IsLeast text_cmp (IsDeclaredActionType o) x
IsNameFault o (EmptyEnum x) = Nowhere (IsDeclaredActionType o) × IsLeast text_cmp (IsEmptyEnum o) x
IsNameFault o (NotAnAction u) =
    Nowhere (IsDeclaredActionType o) × Nowhere (IsEmptyEnum o) × IsLeast uid_cmp (IsNoAction o) u
IsNameFault o (UndeclaredType x) = Nowhere (IsDeclaredActionType o) ×
    Nowhere (IsEmptyEnum o) × Nowhere (IsNoAction o) × IsLeast text_cmp (IsUndeclaredType o) x
IsNameFault o (UndeclaredAction u) = Nowhere (IsDeclaredActionType o) × Nowhere (IsEmptyEnum o) ×
    Nowhere (IsNoAction o) × Nowhere (IsUndeclaredType o) × IsLeast uid_cmp (IsUndeclaredAction o) u
IsNameFault o OutOfMemory = ⊤
IsNameFault o _ = ⊥

-- the first rule about types inside that is broken, with the least name
abbrev pub IsTypeFault : Outline → SchemaFault → Type 0
IsTypeFault o (BadType x) = IsLeast text_cmp (IsBadType o) x
IsTypeFault o (BadContext u) = Nowhere (IsBadType o) × IsLeast uid_cmp (IsBadContext o) u
IsTypeFault o (UnknownExtension n) =
    Nowhere (IsBadType o) × Nowhere (IsBadContext o) × IsLeast text_cmp (IsUnknownExtension o) n
IsTypeFault o OutOfMemory = ⊤
IsTypeFault o _ = ⊥

-- no key of the list stands twice
abbrev pub IsOnce : {K : Type 0} → List K → Type 0
IsOnce keys = Nowhere (IsRepeated keys)

-- the ids of actions
abbrev pub action_ids_of : SchemaData → List EntityUID
action_ids_of s = map (λ a. a.name) s.action_ids

-- the rules before those about descendants are kept
abbrev pub HasOnceNamed : SchemaData → Type 0
HasOnceNamed s = IsOnce (action_ids_of s) × HasSoundNames (outline_of s)

-- the schema keeps every rule, and declares and lists what these types and actions do
abbrev pub IsSchemaOfData : SchemaData → SchemaData → Type 0
IsSchemaOfData given s = IsSchema s × (outline_of s ≡ outline_of given)

-- why these types and actions are no schema
abbrev pub IsRefusedData : SchemaData → SchemaFault → Type 0
IsRefusedData s (DuplicateAction u) = IsLeast uid_cmp (IsRepeated (action_ids_of s)) u
IsRefusedData s (ActionCycle u) = HasOnceNamed s × IsLeast uid_cmp (IsOwnMember (outline_of s)) u
IsRefusedData s (EnumHasAncestor x) =
    HasOnceNamed s × Nowhere (IsOwnMember (outline_of s)) × IsLeast text_cmp (IsListedEnum (outline_of s)) x
IsRefusedData s (NotClosed x) = HasOnceNamed s × Nowhere (IsOwnMember (outline_of s)) ×
    Nowhere (IsListedEnum (outline_of s)) × IsLeast text_cmp (IsOpenType (outline_of s)) x
IsRefusedData s (ActionNotClosed u) =
    HasOnceNamed s × Nowhere (IsOwnMember (outline_of s)) × Nowhere (IsListedEnum (outline_of s)) ×
    Nowhere (IsOpenType (outline_of s)) × IsLeast uid_cmp (IsOpenAction (outline_of s)) u
IsRefusedData s (BadType x) =
    HasOnceNamed s × IsClosed (outline_of s) × IsTypeFault (outline_of s) (BadType x)
IsRefusedData s (BadContext u) =
    HasOnceNamed s × IsClosed (outline_of s) × IsTypeFault (outline_of s) (BadContext u)
IsRefusedData s (UnknownExtension n) =
    HasOnceNamed s × IsClosed (outline_of s) × IsTypeFault (outline_of s) (UnknownExtension n)
IsRefusedData s OutOfMemory = ⊤
IsRefusedData s fault = IsOnce (action_ids_of s) × IsNameFault (outline_of s) fault
