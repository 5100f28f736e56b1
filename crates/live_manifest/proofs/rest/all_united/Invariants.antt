use Rattle.std.proofs.Common.{List, map, take}
use Rattle.std.specs.List.{AllZip}
use Rattle.std.specs.Map.Iter.{deref}
use Rattle.std.specs.declared.vec.Vec.{Vec}
use Rattle.std.specs.declared.alloc.Global.{Global}
use Rattle.access_tries.specs.Table.{Table}
use Rattle.schema_core.specs.EnvData.{unlinked_envs}
use Rattle.policy_set.specs.Data.{PolicyData}
use Rattle.live_manifest.specs.Tries.{HasTriesOf}
use Rattle.live_manifest.specs.Unions.{IsTrieOfPolicies}
use Rattle.live_manifest.proofs.rest.all_united.Given as goal

-- a trie for each environment so far
abbrev pub invariant-loop-number : goal.invariant-loop-number
invariant-loop-number l =
    (ps : List PolicyData) → AllZip (HasTriesOf l.schema) ps (map (deref {X = Vec Table Global}) l.tries) →
    AllZip (λ env t. IsTrieOfPolicies l.schema env ps t) (take l.number (unlinked_envs l.schema)) l.united.items
