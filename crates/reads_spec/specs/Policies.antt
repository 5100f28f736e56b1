-- Coverage of policies.
use Rattle.std.specs.Prelude.{◌≡◌, List, map}
use Rattle.std.specs.List.{AllByRecursion}
use Rattle.entity_store.specs.declared.request.Request.{Request}
use Rattle.entity_store.specs.Store.{Store}
use Rattle.policy_set.specs.Data.{PolicyData}
use Rattle.policy_set.specs.Response.{outcomes}
use Rattle.schema_core.specs.EnvData.{LinkedEnvironment, declared_action}
use Rattle.schema_core.specs.Faults.{IsSchema}
use Rattle.schema_core.specs.Schema.{SchemaData}
use Rattle.typing_spec.specs.Conforms.{RequestConforms, IsOf}
use Rattle.typing_spec.specs.Typing.{Typing}
use Rattle.reads_spec.specs.Cover.{IsPartOf, restricted}
use Rattle.reads_spec.specs.Conditions.{HasTyping}
use Rattle.reads_spec.specs.Reached.{ReachedConforms}

-- a policy with the typing of its own condition
abbrev pub PolicyHasTyping : SchemaData → LinkedEnvironment → PolicyData × Typing → Type 0
PolicyHasTyping schema env p = HasTyping schema env (p.0.condition, p.1)

-- where the request, of the environment, and the entities that the policies reach conform, each policy with
-- its typing has, on each store between the one restricted to what the typed conditions read and the whole
-- one, the outcome that it has on the whole one
abbrev pub PoliciesAreCovered : Type 0
PoliciesAreCovered =
    (schema : SchemaData) → IsSchema schema →
    (env : LinkedEnvironment) (q : Request) → RequestConforms schema q → IsOf schema q env →
    (whole : Store) (ps : List (PolicyData × Typing)) → AllByRecursion (PolicyHasTyping schema env) ps →
    ReachedConforms schema (declared_action env) (map (λ p. p.1.tree) ps) q whole →
    (s : Store) → IsPartOf (restricted schema (declared_action env) (map (λ p. p.1.tree) ps) q whole) s →
    IsPartOf s whole →
    outcomes (map (λ p. p.0) ps) q s ≡ outcomes (map (λ p. p.0) ps) q whole
