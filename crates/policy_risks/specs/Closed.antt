-- Policies that never end with an error.
use Rattle.std.specs.Prelude.{◌≡◌, ⊤, true, is_some}
use Rattle.entity_store.specs.declared.request.Request.{Request}
use Rattle.entity_store.specs.Request.{principal_of, resource_of}
use Rattle.entity_store.specs.Store.{Store, entity_at}
use Rattle.schema_core.specs.EnvData.{EnvData, LinkedEnvironment, declared_action}
use Rattle.schema_core.specs.Schema.{SchemaData}
use Rattle.typing_spec.specs.Conforms.{RequestConforms, StoreConforms, IsOf}
use Rattle.policy_set.specs.Data.{PolicyData}
use Rattle.policy_set.specs.Response.{outcome}
use Rattle.condition_risks.specs.Expected.{IsTruthValue}
use Rattle.policy_risks.specs.declared.endings.Assumed.{Assumed}
use Rattle.policy_risks.specs.declared.endings.Assumed.TheVariants.{Nothing, PrincipalAndResource}

-- the request's principal and its resource are stored
pub record HasBoth (q : Request) (s : Store) : Type 0 where
  pub principal : is_some (entity_at s (principal_of q)) ≡ true
  pub resource : is_some (entity_at s (resource_of q)) ≡ true

-- what is assumed holds
abbrev pub Holds : Assumed → Request → Store → Type 0
Holds Nothing q s = ⊤
Holds PrincipalAndResource q s = HasBoth q s

module _ (schema : SchemaData) where
  -- on every request and every store that conform, where what is assumed holds, the policy's condition is true
  -- or false
  abbrev pub IsClosed : Assumed → PolicyData → Type 0
  IsClosed a p = (q : Request) → RequestConforms schema q → (s : Store) → StoreConforms schema s →
      Holds a q s → IsTruthValue (outcome p q s)

  -- so it is on those of an environment
  abbrev pub IsClosedIn : EnvData → Assumed → PolicyData → Type 0
  IsClosedIn env a p = (e : LinkedEnvironment) → env ≡ declared_action e →
      (q : Request) → RequestConforms schema q → IsOf schema q e → (s : Store) → StoreConforms schema s →
      Holds a q s → IsTruthValue (outcome p q s)
