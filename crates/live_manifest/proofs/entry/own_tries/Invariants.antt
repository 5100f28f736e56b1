use Rattle.std.proofs.Common.{◌+◌, ◌≤◌, map, take}
use Rattle.std.specs.List.{AllZip}
use Rattle.schema_core.specs.RequestEnvs.{env_data_of}
use Rattle.live_manifest.specs.Tries.{IsFoundTrie}
use Rattle.live_manifest.proofs.entry.own_tries.Given as goal

-- a trie and a step for each environment so far
abbrev pub invariant-loop-env : goal.invariant-loop-env
invariant-loop-env g l = record {
  tries : AllZip (IsFoundTrie l.schema l.policy) (map env_data_of (take l.env-index l.env-items)) l.tries.items;
  steps : l.steps ≤ l.fn.steps + l.env-index;
}
