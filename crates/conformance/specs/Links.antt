-- What a schema asks of ancestors, asked of parents.
use Rattle.std.specs.Prelude.{◌≡◌, false, List, None}
use Rattle.policy_values.specs.Basename.{is_action_type}
use Rattle.policy_values.specs.Reaches.{Reaches}
use Rattle.policy_values.specs.declared.entity_uid.EntityUID.{EntityUID}
use Rattle.entity_store.specs.FromParents.{Lists}
use Rattle.entity_store.specs.Store.{StoredEntity}
use Rattle.schema_core.specs.Faults.{IsSchema}
use Rattle.schema_core.specs.Schema.{SchemaData}
use Rattle.conformance.specs.StoreRules.{ancestor_fault}

-- an id to which a link leads from one that is no action's, may be an ancestor of it
abbrev pub AreLinksAllowed : SchemaData → (EntityUID → EntityUID → Type 0) → Type 0
AreLinksAllowed schema Links =
    (x y : EntityUID) → is_action_type x.entity_type ≡ false → Links x y →
    ancestor_fault schema x.entity_type y ≡ None

-- where the links of entities to their parents are allowed, those to all their ancestors are
abbrev pub LinksAreEnough : Type 0
LinksAreEnough =
    (schema : SchemaData) → IsSchema schema → (es : List StoredEntity) →
    AreLinksAllowed schema (Lists es) → AreLinksAllowed schema (Reaches (Lists es))
