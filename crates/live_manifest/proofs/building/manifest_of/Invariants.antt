use Rattle.std.proofs.Common.{◌≡◌, ◌++◌, map, take}
use Rattle.std.specs.List.{AllZip}
use Rattle.std.specs.Vec.Iter.{into_iter_items}
use Rattle.schema_core.specs.RequestEnvs.{env_data_of}
use Rattle.live_manifest.specs.Tries.{IsPlaced}
use Rattle.live_manifest.proofs.building.manifest_of.Given as goal

-- an entry for each environment so far, and the tries that are left
abbrev pub invariant-loop-env : goal.invariant-loop-env
invariant-loop-env l = record {
  placed : AllZip IsPlaced (map env_data_of (take l.env-index l.env-items)) l.per_action.entries;
  tries : map (λ e. e.1) l.per_action.entries ++ into_iter_items l.left ≡ l.fn.tries.items;
}
