-- No rule is broken exactly where the request, the store conforms.
use Rattle.std.specs.Prelude.{◌≡◌, ◌↔◌, ℕ, true, List, None, option_map}
use Rattle.entity_store.specs.declared.request.Request.{Request}
use Rattle.entity_store.specs.Request.{IsWhole}
use Rattle.entity_store.specs.Store.{Store}
use Rattle.policy_values.specs.Value.{Val}
use Rattle.schema_core.specs.Faults.{IsSchema}
use Rattle.schema_core.specs.Schema.{SchemaData}
use Rattle.schema_types.specs.Ty.{Ty}
use Rattle.type_relations.specs.Member.{Member}
use Rattle.typing_spec.specs.Conforms.{RequestConforms, StoreConforms}
use Rattle.policy_expressions.specs.Functions.{function_of}
use Rattle.typing_spec.specs.Table.{function_at, typed}
use Rattle.typing_spec.specs.Types.{Extensions}
use Rattle.conformance.specs.Misfits.{knows, misfit}
use Rattle.conformance.specs.RequestRules.{first_request_fault}
use Rattle.conformance.specs.StoreRules.{first_store_fault}

-- where all functions are there, nothing is wrong exactly with the values of a type
abbrev pub NothingIsWrongWithMembers : Type 0
NothingIsWrongWithMembers = (t : Ty) (v : Val) → (misfit (λ _. true) t v ≡ None) ↔ Member t v

-- a whole request breaks no rule exactly where it conforms
abbrev pub RequestRulesAreExact : Type 0
RequestRulesAreExact = (schema : SchemaData) → IsSchema schema → (q : Request) → IsWhole q →
    (first_request_fault schema (λ _. true) q ≡ None) ↔ RequestConforms schema q

-- a store breaks no rule exactly where it conforms
abbrev pub StoreRulesAreExact : Type 0
StoreRulesAreExact = (schema : SchemaData) → IsSchema schema →
    (s : Store) → (first_store_fault schema s ≡ None) ↔ StoreConforms schema s

-- where each extension function is there under its name, nothing depends on which are there
abbrev pub AllFunctionsAreKnown : Type 0
AllFunctionsAreKnown =
    (e : Extensions) →
    ((name : List ℕ) → function_at e.function_types name ≡ option_map (typed name) (function_of name)) →
    (schema : SchemaData) (q : Request) →
    first_request_fault schema (knows e) q ≡ first_request_fault schema (λ _. true) q
