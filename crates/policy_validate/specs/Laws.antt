-- What holds of the sets that are accepted.
use Rattle.std.specs.Prelude.{◌≡◌, ◌↔◌, []}
use Rattle.std.specs.List.{AllByRecursion}
use Rattle.entity_store.specs.declared.request.Request.{Request}
use Rattle.entity_store.specs.Store.{Store}
use Rattle.policy_set.specs.PolicySet.{PolicySetData, IsPolicySet, AreKeyedOnce}
use Rattle.schema_core.specs.EnvData.{unlinked_envs}
use Rattle.schema_core.specs.Faults.{IsSchema}
use Rattle.schema_core.specs.Schema.{SchemaData}
use Rattle.typing_spec.specs.Conforms.{RequestConforms, StoreConforms}
use Rattle.link_spec.specs.Accepted.{IsTypedIn}
use Rattle.link_spec.specs.Laws.{IsConditionFor}
use Rattle.policy_validate.specs.Accepted.{findings_of, IsAccepted}

-- no error is found exactly where the set is accepted
abbrev pub NoErrorsWhereAccepted : Type 0
NoErrorsWhereAccepted =
    (schema : SchemaData) (s : PolicySetData) → ((findings_of schema s).errors ≡ []) ↔ IsAccepted schema s

-- in an accepted set the condition of each policy, static or a link, has a type in every environment of the
-- schema
abbrev pub AcceptedAreTyped : Type 0
AcceptedAreTyped =
    (schema : SchemaData) → IsSchema schema → (s : PolicySetData) → IsPolicySet s → IsAccepted schema s →
    AllByRecursion (λ p. IsTypedIn schema p.condition (unlinked_envs schema)) s.policies

-- and keeps what typing promises of conditions, for each request and each store that conform
abbrev pub AcceptedAreSound : Type 0
AcceptedAreSound =
    (schema : SchemaData) → IsSchema schema → (s : PolicySetData) → IsPolicySet s →
    AreKeyedOnce s.policies → IsAccepted schema s →
    (q : Request) → RequestConforms schema q → (e : Store) → StoreConforms schema e →
    AllByRecursion (λ p. IsConditionFor schema p.condition q e) s.policies
