use Rattle.std.proofs.Common.{◌≡◌, [], drop}
use Rattle.schema_core.specs.RequestEnvs.{env_data_of}
use Rattle.reads_spec.specs.Reads.{reads_of, demands_of}
use Rattle.path_analysis.specs.Covers.{Adds}
use Rattle.path_analysis.specs.PathOrder.{with_demands}
use Rattle.path_analysis.proofs.conditions.conditions_trie.Given as goal

-- what was found, and what is left
abbrev pub invariant-loop-condition : goal.invariant-loop-condition
invariant-loop-condition l = record {
  reads : Adds [] (reads_of l.schema (env_data_of l.env) l.conditions) l.reads.keys (reads_of l.schema (env_data_of l.env) (drop l.condition-index l.conditions));
  demands : with_demands l.demands.keys (demands_of (drop l.condition-index l.conditions)) ≡ with_demands [] (demands_of l.conditions);
}
