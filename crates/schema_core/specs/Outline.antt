-- What a schema declares and what it names, as tests: the part of it that its rules speak of.
use Rattle.std.specs.Prelude.{◌≡◌, ◌↔◌, ◌⊎◌, ℕ, Bool, false, List, Option, IsTrue, IfSome, IsSomeAnd, is_some, option_map}
use Rattle.std.specs.Option.{option_map_or}
use Rattle.policy_values.specs.declared.entity_uid.EntityUID.{EntityUID}
use Rattle.policy_values.specs.Basename.{is_action_type}
use Rattle.policy_values.specs.Uid.{text_cmp, uid_cmp}
use Rattle.policy_values.specs.Reaches.{has, Reaches}
use Rattle.schema_types.specs.Ty.{Attrs}
use Rattle.schema_core.specs.Inside.{attrs_name, attrs_extend, is_known_extension, are_held}
use Rattle.schema_core.specs.Kinds.{Kind, is_enum, is_empty_enum, kind_names, kind_extends, is_held_kind}
use Rattle.schema_core.specs.Schema.{SchemaData, type_at, action_at}

pub record Outline : Type 0 where
  -- whether the entity type is declared
  pub has_type : List ℕ → Bool
  -- whether the second type is listed at the first
  pub type_lists : List ℕ → List ℕ → Bool
  -- whether the action is declared
  pub has_action : EntityUID → Bool
  -- whether the second action is listed at the first
  pub action_lists : EntityUID → EntityUID → Bool
  -- whether the type is listed among the principal types, the resource types, of the action
  pub principal_lists : EntityUID → List ℕ → Bool
  pub resource_lists : EntityUID → List ℕ → Bool
  -- what the entity type is; what attributes the action's context has
  pub kind_at : List ℕ → Option Kind
  pub context_at : EntityUID → Option Attrs

-- the outline of a schema lists descendants
abbrev pub outline_of : SchemaData → Outline
outline_of s = record {
  has_type = λ x. is_some (type_at s x);
  type_lists = λ x y. option_map_or (λ t. has text_cmp t.descendants y) (type_at s x) false;
  has_action = λ u. is_some (action_at s u);
  action_lists = λ u v. option_map_or (λ a. has uid_cmp a.descendants v) (action_at s u) false;
  principal_lists = λ u y. option_map_or (λ a. has text_cmp a.principals y) (action_at s u) false;
  resource_lists = λ u y. option_map_or (λ a. has text_cmp a.resources y) (action_at s u) false;
  kind_at = λ x. option_map (λ t. t.kind) (type_at s x);
  context_at = λ u. option_map (λ a. a.context) (action_at s u);
}

module _ (o : Outline) where
  -- the type is listed at some type, or at some action
  abbrev pub IsListedType : List ℕ → Type 0
  IsListedType y = ((x : List ℕ) × IsTrue (o.type_lists x y)) ⊎
      (((u : EntityUID) × IsTrue (o.principal_lists u y)) ⊎ ((u : EntityUID) × IsTrue (o.resource_lists u y)))

  -- the type is named in attributes or tags of some type, or in the context of some action
  abbrev pub IsTypeInside : List ℕ → Type 0
  IsTypeInside y = ((x : List ℕ) × IsSomeAnd (o.kind_at x) (λ k. IsTrue (kind_names k y))) ⊎
      ((u : EntityUID) × IsSomeAnd (o.context_at u) (λ xs. IsTrue (attrs_name xs y)))

  abbrev pub IsNamedType : List ℕ → Type 0
  IsNamedType y = IsListedType y ⊎ IsTypeInside y

  -- the extension type is named in attributes or tags of some type, or in the context of some action
  abbrev pub IsNamedExtension : List ℕ → Type 0
  IsNamedExtension n = ((x : List ℕ) × IsSomeAnd (o.kind_at x) (λ k. IsTrue (kind_extends k n))) ⊎
      ((u : EntityUID) × IsSomeAnd (o.context_at u) (λ xs. IsTrue (attrs_extend xs n)))

  -- the type is enumerated
  abbrev pub IsEnumType : List ℕ → Type 0
  IsEnumType x = IsSomeAnd (o.kind_at x) (λ k. IsTrue (is_enum k))

  -- the action is listed at some action
  abbrev pub IsNamedAction : EntityUID → Type 0
  IsNamedAction v = (u : EntityUID) × IsTrue (o.action_lists u v)

  -- Rules that may be broken, each as what breaks it.

  -- a declared type that has the basename of actions
  abbrev pub IsDeclaredActionType : List ℕ → Type 0
  IsDeclaredActionType x = IsTrue (o.has_type x) × IsTrue (is_action_type x)

  -- an enumerated type that lists no id
  abbrev pub IsEmptyEnum : List ℕ → Type 0
  IsEmptyEnum x = IsSomeAnd (o.kind_at x) (λ k. IsTrue (is_empty_enum k))

  -- a declared action whose type has another basename
  abbrev pub IsNoAction : EntityUID → Type 0
  IsNoAction u = IsTrue (o.has_action u) × (is_action_type u.entity_type ≡ false)

  -- a type that is named and not declared
  abbrev pub IsUndeclaredType : List ℕ → Type 0
  IsUndeclaredType y = (o.has_type y ≡ false) × IsNamedType y

  -- an action that is named and not declared
  abbrev pub IsUndeclaredAction : EntityUID → Type 0
  IsUndeclaredAction v = (o.has_action v ≡ false) × IsNamedAction v

  -- an action that is listed at itself
  abbrev pub IsOwnMember : EntityUID → Type 0
  IsOwnMember u = IsTrue (o.action_lists u u)

  -- an enumerated type that is listed at a type; one that lists a type
  abbrev pub IsListedEnum : List ℕ → Type 0
  IsListedEnum y = IsEnumType y × ((x : List ℕ) × IsTrue (o.type_lists x y))

  abbrev pub IsListingEnum : List ℕ → Type 0
  IsListingEnum x = IsEnumType x × ((y : List ℕ) × IsTrue (o.type_lists x y))

  -- a type at which a type is not listed that is listed at one that it lists
  abbrev pub IsOpenType : List ℕ → Type 0
  IsOpenType x = (y : List ℕ) × (z : List ℕ) × IsTrue (o.type_lists x y) ×
      IsTrue (o.type_lists y z) × (o.type_lists x z ≡ false)

  -- the same of actions
  abbrev pub IsOpenAction : EntityUID → Type 0
  IsOpenAction u = (v : EntityUID) × (w : EntityUID) × IsTrue (o.action_lists u v) ×
      IsTrue (o.action_lists v w) × (o.action_lists u w ≡ false)

  -- an entity type in whose attributes or tags is a type that no schema holds
  abbrev pub IsBadType : List ℕ → Type 0
  IsBadType x = IsSomeAnd (o.kind_at x) (λ k. is_held_kind k ≡ false)

  -- an action in whose context is such a type
  abbrev pub IsBadContext : EntityUID → Type 0
  IsBadContext u = IsSomeAnd (o.context_at u) (λ xs. are_held xs ≡ false)

  -- an extension type that is named and is none of those that there are
  abbrev pub IsUnknownExtension : List ℕ → Type 0
  IsUnknownExtension n = (is_known_extension n ≡ false) × IsNamedExtension n

-- the names keep their rules
pub record HasSoundNames (o : Outline) : Type 0 where
  -- no declared type has the basename of actions
  pub types : (x : List ℕ) → IsTrue (o.has_type x) → is_action_type x ≡ false
  -- every enumerated type lists an id
  pub enums : (x : List ℕ) → IfSome (o.kind_at x) (λ k. is_empty_enum k ≡ false)
  -- the type of every action has it
  pub actions : (u : EntityUID) → IsTrue (o.has_action u) → IsTrue (is_action_type u.entity_type)
  -- every type that is named is declared
  pub named_types : (y : List ℕ) → IsNamedType o y → IsTrue (o.has_type y)
  -- every action that is named is declared
  pub named_actions : (v : EntityUID) → IsNamedAction o v → IsTrue (o.has_action v)

-- what is listed is closed: at types and at actions stands whatever is listed at what is listed there; no
-- action is listed at itself, and no enumerated type at a type
pub record IsClosed (o : Outline) : Type 0 where
  pub types : (x y z : List ℕ) → IsTrue (o.type_lists x y) →
      IsTrue (o.type_lists y z) → IsTrue (o.type_lists x z)
  pub actions : (u v w : EntityUID) → IsTrue (o.action_lists u v) →
      IsTrue (o.action_lists v w) → IsTrue (o.action_lists u w)
  pub no_own : (u : EntityUID) → o.action_lists u u ≡ false
  pub no_enum : (x y : List ℕ) → IsTrue (o.type_lists x y) → IfSome (o.kind_at y) (λ k. is_enum k ≡ false)

-- types inside keep their rules
pub record HasSoundTypes (o : Outline) : Type 0 where
  -- attributes and tags of every entity type, and the context of every action, are of types that a schema
  -- may hold
  pub kinds : (x : List ℕ) → IfSome (o.kind_at x) (λ k. IsTrue (is_held_kind k))
  pub contexts : (u : EntityUID) → IfSome (o.context_at u) (λ xs. IsTrue (are_held xs))
  -- every extension type that is named is one of those that there are
  pub extensions : (n : List ℕ) → IsNamedExtension o n → IsTrue (is_known_extension n)

-- o declares what d declares, and lists at each type and action its members: what lists it in d, by one or
-- more steps
pub record HasDescendants (d o : Outline) : Type 0 where
  pub has_type : (x : List ℕ) → o.has_type x ≡ d.has_type x
  pub has_action : (u : EntityUID) → o.has_action u ≡ d.has_action u
  pub types : (x y : List ℕ) → IsTrue (o.type_lists x y) ↔ Reaches (λ a b. IsTrue (d.type_lists a b)) y x
  pub actions : (u v : EntityUID) →
      IsTrue (o.action_lists u v) ↔ Reaches (λ a b. IsTrue (d.action_lists a b)) v u
  pub principals : (u : EntityUID) (y : List ℕ) → o.principal_lists u y ≡ d.principal_lists u y
  pub resources : (u : EntityUID) (y : List ℕ) → o.resource_lists u y ≡ d.resource_lists u y
  pub kinds : (x : List ℕ) → o.kind_at x ≡ d.kind_at x
  pub contexts : (u : EntityUID) → o.context_at u ≡ d.context_at u
