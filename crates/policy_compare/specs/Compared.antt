-- What an edit of policies changes, in an environment.
use Rattle.std.specs.Prelude.{◌≡◌, List}
use Rattle.entity_store.specs.declared.request.Request.{Request}
use Rattle.entity_store.specs.Store.{Store}
use Rattle.schema_core.specs.EnvData.{EnvData, LinkedEnvironment, declared_action}
use Rattle.schema_core.specs.Schema.{SchemaData}
use Rattle.typing_spec.specs.Conforms.{RequestConforms, StoreConforms, IsOf}
use Rattle.policy_set.specs.Data.{PolicyData}
use Rattle.policy_set.specs.Response.{response}
use Rattle.policy_set.specs.declared.response.Decision.TheVariants.{Allow}

module _ (schema : SchemaData) (env : EnvData) where
  -- the request is of the environment
  abbrev pub IsOfEnvironment : Request → Type 0
  IsOfEnvironment q = (e : LinkedEnvironment) × (env ≡ declared_action e) × IsOf schema q e

  -- on every whole request of the environment and every store, where both conform: the decision after is
  -- Allow only where the decision before is
  abbrev pub AllowsAtMost : List PolicyData → List PolicyData → Type 0
  AllowsAtMost before after =
      (q : Request) → RequestConforms schema q → IsOfEnvironment q → (s : Store) → StoreConforms schema s →
      (response after q s).decision ≡ Allow → (response before q s).decision ≡ Allow
