-- What checks of conditions leave.
use Rattle.std.specs.Prelude.{List}
use Rattle.std.specs.List.{AllZip}
use Rattle.schema_core.specs.EnvData.{EnvData}
use Rattle.schema_core.specs.Schema.{SchemaData}
use Rattle.policy_set.specs.Data.{PolicyData}
use Rattle.policy_validate.specs.Found.{found_conditions}
use Rattle.manifest_core.specs.Manifest.{Manifest}
use Rattle.policy_validate.specs.AcceptanceLaws.{LeavesAll}
use Rattle.manifest_computation.specs.Computed.{IsEntryOf}

-- an entry for each environment, of what checks leave there: the condition of each policy
abbrev pub AreEntries : SchemaData → List PolicyData → List EnvData → Manifest → Type 0
AreEntries schema ps envs m = AllZip
    (λ env e. IsEntryOf schema env (found_conditions schema env ps) e × LeavesAll schema ps env) envs m
