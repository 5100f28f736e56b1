use Rattle.std.proofs.Common.{◌≡◌, ◌-◌, length, drop}
use Rattle.access_tries.proofs.Alike.{alike}
use Rattle.access_tries.proofs.same.+leads_alike.Given as goal

abbrev pub decreases-leads_alike : goal.decreases-leads_alike
decreases-leads_alike l = length l.a.now - l.i

-- what is left leads to the same where all does
abbrev pub invariant-loop-k : goal.invariant-loop-k
invariant-loop-k l = alike l.a l.b (drop l.k l.xs) (drop l.k l.ys) ≡ alike l.a l.b l.xs l.ys
