use Rattle.std.proofs.Common.{◌≡◌, ◌++◌, drop}
use Rattle.std.specs.List.{flat_map}
use Rattle.schema_core.specs.RequestEnvs.{env_data_of}
use Rattle.reads_spec.specs.Reads.{all_below}
use Rattle.path_analysis.proofs.below.add_all_below.Given as goal

-- what was found, and what is left
abbrev pub invariant-loop-path : goal.invariant-loop-path
invariant-loop-path l =
    l.found.items ++ flat_map (all_below l.at.schema.now (env_data_of l.at.env.now)) (drop l.path-index l.paths)
    ≡ l.fn.found.items ++ flat_map (all_below l.at.schema.now (env_data_of l.at.env.now)) l.paths
