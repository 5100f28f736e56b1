use Rattle.std.proofs.Common.{◌≡◌, ◌++◌, filter}
use Rattle.schema_core.specs.RequestEnvs.{env_data_of}
use Rattle.reads_spec.specs.Reads.{are_declared}
use Rattle.path_analysis.proofs.conditions.declared_demands.Given as goal

-- what was added, and what is left
abbrev pub invariant-loop-demand : goal.invariant-loop-demand
invariant-loop-demand l =
    l.declared.items ++ filter (are_declared l.at.schema.now (env_data_of l.at.env.now)) l.demand-iterator
    ≡ filter (are_declared l.at.schema.now (env_data_of l.at.env.now)) l.fn.demands.keys
