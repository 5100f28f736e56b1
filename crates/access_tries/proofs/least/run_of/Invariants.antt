use Rattle.std.proofs.Common.{length, drop, ◌+◌, ◌-◌, ◌≤◌, ◌≡◌}
use Rattle.std.specs.Prelude.{option_map}
use Rattle.access_tries.specs.Tails.{tails, run}
use Rattle.access_tries.proofs.least.run_of.Given as goal

-- what is counted, and what is left
abbrev pub invariant-loop-count : goal.invariant-loop-count
invariant-loop-count l = record {
  within : l.count ≤ length l.addresses;
  left : l.count + run (option_map (λ e. e.now) l.edge) (tails l.depth (drop l.count l.addresses)) ≡ run (option_map (λ e. e.now) l.edge) (tails l.depth l.addresses);
}

abbrev pub decreases-loop-count : goal.decreases-loop-count
decreases-loop-count l = length l.addresses - l.count
