-- What holds of reviews.
use Rattle.std.specs.Prelude.{◌≡◌, true, Some}
use Rattle.std.specs.List.{AllByRecursion}
use Rattle.entity_store.specs.declared.request.Request.{Request}
use Rattle.entity_store.specs.declared.request.RequestType.{RequestType}
use Rattle.entity_store.specs.Request.{IsWhole, request_type_of}
use Rattle.entity_store.specs.Store.{Store}
use Rattle.schema_core.specs.EnvData.{EnvData, request_type_in, unlinked_envs}
use Rattle.schema_core.specs.Faults.{IsSchema}
use Rattle.schema_core.specs.Schema.{SchemaData}
use Rattle.policy_set.specs.Condition.{written_of}
use Rattle.policy_set.specs.Data.{PolicyData, TemplateData}
use Rattle.policy_set.specs.PolicySet.{PolicySetData, IsPolicySet, AreKeyedOnce, written}
use Rattle.policy_set.specs.Response.{outcome}
use Rattle.typing_spec.specs.Conforms.{RequestConforms, StoreConforms}
use Rattle.typing_spec.specs.Sound.{IsTruth}
use Rattle.reads_spec.specs.Among.{IsIn}
use Rattle.policy_typecheck.specs.Policies.{is_impossible}
use Rattle.policy_typecheck.specs.Verdict.{verdict_of}
use Rattle.policy_typecheck.specs.declared.verdict.Verdict.TheVariants.{Never}
use Rattle.policy_validate.specs.Accepted.{IsAccepted}
use Rattle.policy_review.specs.Levels.{HasLeastLevel}

-- a policy of which a row says never is true on no request of the row's type and on no store, where both
-- conform
abbrev pub NeversAreNeverTrue : SchemaData → PolicySetData → Type 0
NeversAreNeverTrue schema s =
    (p : PolicyData) → IsIn p s.policies → (env : EnvData) → IsIn env (unlinked_envs schema) →
    verdict_of schema p.condition env ≡ Never →
    (q : Request) → RequestConforms schema q → (t : RequestType) → request_type_in env ≡ Some t →
    request_type_of q ≡ Some t →
    (store : Store) → StoreConforms schema store → IsTruth (outcome p q store) → ⊥

-- of an accepted set
abbrev pub NeverIsNeverTrue : Type 0
NeverIsNeverTrue =
    (schema : SchemaData) → IsSchema schema → (s : PolicySetData) → IsPolicySet s →
    AreKeyedOnce s.policies → IsAccepted schema s → NeversAreNeverTrue schema s

-- a policy that is impossible as it is written, of which a warning is found, is true on no request and on no
-- store, where both conform
abbrev pub ImpossiblesAreNeverTrue : SchemaData → PolicySetData → Type 0
ImpossiblesAreNeverTrue schema s =
    (p : PolicyData) → IsIn p s.policies → is_impossible schema (written_of p) ≡ true →
    (q : Request) → IsWhole q → RequestConforms schema q →
    (store : Store) → StoreConforms schema store → IsTruth (outcome p q store) → ⊥

-- of an accepted set
abbrev pub ImpossibleIsNeverTrue : Type 0
ImpossibleIsNeverTrue =
    (schema : SchemaData) → IsSchema schema → (s : PolicySetData) → IsPolicySet s →
    AreKeyedOnce s.policies → IsAccepted schema s → ImpossiblesAreNeverTrue schema s

-- each template and static policy passes at its least level and at none below
abbrev pub LevelsAreLeast : SchemaData → PolicySetData → Type 0
LevelsAreLeast schema s = AllByRecursion (HasLeastLevel schema) (written s)

abbrev pub LeastLevelsAreLeast : Type 0
LeastLevelsAreLeast = (schema : SchemaData) (t : TemplateData) → HasLeastLevel schema t
