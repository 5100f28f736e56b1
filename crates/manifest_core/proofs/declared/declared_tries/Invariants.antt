use Rattle.std.proofs.Common.{◌≡◌, ◌++◌}
use Rattle.std.specs.Map.{keys_of}
use Rattle.manifest_core.specs.Manifest.{Manifest}
use Rattle.manifest_core.specs.Mismatches.{AreTyped}
use Rattle.manifest_core.proofs.declared.declared_tries.Given as goal

-- what is typed of those that are left comes behind what there is
abbrev pub invariant-loop-request_type : goal.invariant-loop-request_type
invariant-loop-request_type l = record {
  typed : (ms : Manifest) → AreTyped l.schema l.request_type-iterator ms → AreTyped l.schema l.per_action.entries (l.tries.entries ++ ms);
  same_keys : keys_of l.tries.entries ++ keys_of l.request_type-iterator ≡ keys_of l.per_action.entries;
}
