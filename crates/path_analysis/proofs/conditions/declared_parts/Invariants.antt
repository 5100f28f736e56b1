use Rattle.std.proofs.Common.{◌≡◌, ◌++◌, map}
use Rattle.schema_core.specs.RequestEnvs.{env_data_of}
use Rattle.reads_spec.specs.PathTypes.{declared_part}
use Rattle.path_analysis.proofs.conditions.declared_parts.Given as goal

-- what was added, and what is left
abbrev pub invariant-loop-path : goal.invariant-loop-path
invariant-loop-path l =
    l.parts.items ++ map (declared_part l.at.schema.now (env_data_of l.at.env.now)) l.path-iterator
    ≡ map (declared_part l.at.schema.now (env_data_of l.at.env.now)) l.fn.paths.keys
