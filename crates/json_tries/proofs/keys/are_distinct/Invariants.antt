use Rattle.std.proofs.Common.{◌≡◌, drop}
use Rattle.json_tries.specs.Reading.{are_distinct}
use Rattle.json_tries.proofs.keys.are_distinct.Given as goal

abbrev pub invariant-loop-i : goal.invariant-loop-i
invariant-loop-i l = are_distinct (drop l.i l.edges) ≡ are_distinct l.edges
