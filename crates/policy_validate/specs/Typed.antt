-- The conditions of policies with their types.
use Rattle.std.specs.Prelude.{List, [], option_map}
use Rattle.std.specs.List.{filter_map}
use Rattle.schema_core.specs.EnvData.{EnvData}
use Rattle.schema_core.specs.Schema.{SchemaData}
use Rattle.typing_spec.specs.Typing.{Typed, types}
use Rattle.policy_set.specs.Data.{PolicyData}

-- the conditions of policies, each with its types in an environment; a condition without a type there is left
-- out
abbrev pub typed_conditions : SchemaData → EnvData → List PolicyData → List Typed
typed_conditions schema env ps =
    filter_map (λ p. option_map (λ a. a.tree) (types schema env [] p.condition)) ps
