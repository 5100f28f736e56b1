use Rattle.std.proofs.Common.{◌≡◌, ◌++◌, drop}
use Rattle.std.specs.Prelude.{option_map}
use Rattle.policy_expressions.specs.Tree.{trees_of}
use Rattle.schema_core.specs.RequestEnvs.{env_data_of}
use Rattle.typing_spec.specs.Environment.{known_ids}
use Rattle.typecheck_rules.proofs.environment.known_ids.Given as goal

-- the ids so far, and then those of what is left
abbrev pub invariant-loop-element : goal.invariant-loop-element
invariant-loop-element l =
    option_map (λ us. l.ids.items ++ us) (known_ids (env_data_of l.env) (trees_of (drop l.element-index l.elements))) ≡ known_ids (env_data_of l.env) (trees_of l.elements)
