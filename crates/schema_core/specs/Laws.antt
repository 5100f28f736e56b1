-- Laws of schemas.
use Rattle.std.specs.Prelude.{◌≡◌, ⊤, ℕ, List, Some, None, IsTrue, IfSome}
use Rattle.policy_values.specs.declared.entity_uid.EntityUID.{EntityUID}
use Rattle.schema_types.specs.Ty.{Ty, Attrs}
use Rattle.schema_types.specs.Plain.{plain, plain_attrs}
use Rattle.schema_core.specs.Inside.{is_held, are_held}
use Rattle.schema_core.specs.Kinds.{Kind, standard, enumerated}
use Rattle.schema_core.specs.Schema.{SchemaData, type_at, action_at}
use Rattle.schema_core.specs.Faults.{IsSchema}

-- a type that a schema may hold is its own schema type; the same of attributes
abbrev pub HeldTypesArePlain : Type 0
HeldTypesArePlain = (t : Ty) → IsTrue (is_held t) → plain t ≡ Some t

abbrev pub HeldAttributesArePlain : Type 0
HeldAttributesArePlain = (xs : Attrs) → IsTrue (are_held xs) → plain_attrs xs ≡ Some xs

-- attributes and the type of tags, each its own schema type
abbrev pub IsPlainKind : Kind → Type 0
IsPlainKind (standard xs None) = plain_attrs xs ≡ Some xs
IsPlainKind (standard xs (Some t)) = (plain_attrs xs ≡ Some xs) × (plain t ≡ Some t)
IsPlainKind (enumerated ids) = ⊤

-- in a schema those of every entity type are, and the context of every action
abbrev pub SchemaTypesArePlain : Type 0
SchemaTypesArePlain =
    (s : SchemaData) → IsSchema s → (x : List ℕ) → IfSome (type_at s x) (λ t. IsPlainKind t.kind)

abbrev pub SchemaContextsArePlain : Type 0
SchemaContextsArePlain = (s : SchemaData) → IsSchema s →
    (u : EntityUID) → IfSome (action_at s u) (λ a. plain_attrs a.context ≡ Some a.context)
