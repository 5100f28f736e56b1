-- What shows that an edit changes a decision.
use Rattle.std.specs.Prelude.{◌≡◌, List}
use Rattle.entity_store.specs.Request.{IsWhole}
use Rattle.schema_core.specs.EnvData.{EnvData}
use Rattle.schema_core.specs.Schema.{SchemaData}
use Rattle.typing_spec.specs.Conforms.{RequestConforms, StoreConforms}
use Rattle.policy_compare.specs.Compared.{IsOfEnvironment}
use Rattle.policy_set.specs.Data.{PolicyData}
use Rattle.policy_set.specs.Response.{response}
use Rattle.policy_set.specs.declared.response.Decision.{Decision}
use Rattle.policy_set.specs.declared.response.Decision.TheVariants.{Allow, Deny}
use Rattle.edit_witnesses.specs.declared.witness.Turn.{Turn}
use Rattle.edit_witnesses.specs.declared.witness.Turn.TheVariants.{ToDeny, ToAllow}
use Rattle.edit_witnesses.specs.declared.witness.Witness.{Witness}

-- the decision that is turned
abbrev pub decision_before : Turn → Decision
decision_before ToDeny = Allow
decision_before ToAllow = Deny

-- what it is turned into
abbrev pub decision_after : Turn → Decision
decision_after ToDeny = Deny
decision_after ToAllow = Allow

-- the request is whole and of the environment, the request and the store conform, and on them the decision by
-- the policies before is turned by those after
pub record IsWitness (schema : SchemaData) (env : EnvData) (before after : List PolicyData) (turn : Turn) (w : Witness) : Type 0 where
  pub whole : IsWhole w.request
  pub request : RequestConforms schema w.request
  pub environment : IsOfEnvironment schema env w.request
  pub store : StoreConforms schema w.entities
  pub turned_from : (response before w.request w.entities).decision ≡ decision_before turn
  pub turned_to : (response after w.request w.entities).decision ≡ decision_after turn
