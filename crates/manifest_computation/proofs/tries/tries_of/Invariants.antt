use Rattle.std.proofs.Common.{map, take}
use Rattle.schema_core.specs.RequestEnvs.{env_data_of}
use Rattle.manifest_computation.specs.Found.{AreEntries}
use Rattle.manifest_computation.proofs.tries.tries_of.Given as goal

-- an entry for each environment so far
abbrev pub invariant-loop-env : goal.invariant-loop-env
invariant-loop-env l = AreEntries l.schema l.policies.policies (map env_data_of (take l.env-index l.env-items)) l.tries.entries
