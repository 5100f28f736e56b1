-- The environments of a template, by what stands for its slots: for the code and its proofs.
use Rattle.std.specs.Prelude.{ℕ, List, Option, map}
use Rattle.std.specs.Option.{option_copied}
use denote.Ref.{Bor}
use Rattle.schema_core.specs.Schema.{ActionData}
use Rattle.schema_core.specs.Environments.{environment}
use Rattle.schema_core.specs.EnvData.{EnvData}
use Rattle.link_spec.specs.Linked.{linked_env}

-- those of an action, of these types of the principal and the resource and of what stands for the principal's
-- slot, with each of the types of what stands for the resource's
abbrev pub slot_envs : ActionData → List ℕ → List ℕ →
    Option (Bor (List ℕ)) → List (Option (Bor (List ℕ))) → List EnvData
slot_envs a n m p rs = map (linked_env a (environment n a.name m) (option_copied p)) (map option_copied rs)
