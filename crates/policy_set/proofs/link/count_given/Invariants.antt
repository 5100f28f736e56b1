use Rattle.std.proofs.Common.{◌≡◌, ◌+◌, ◌≤◌, drop}
use Rattle.std.specs.Prelude.{length}
use Rattle.policy_set.specs.PolicySet.{given}
use Rattle.policy_set.proofs.link.count_given.Given as goal

-- those so far, and then those that are left
abbrev pub invariant-loop-value : goal.invariant-loop-value
invariant-loop-value l = record {
  count : l.count + length (given (drop l.value-index l.values) l.slot) ≡ length (given l.values l.slot);
  bound : l.count ≤ l.value-index;
}
