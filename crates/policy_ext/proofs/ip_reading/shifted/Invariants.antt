use Rattle.std.proofs.Common.{◌≡◌, ◌*◌, ◌-◌, ◌^◌}
use Rattle.policy_ext.proofs.ip_reading.shifted.Given as goal

abbrev pub invariant-loop-i : goal.invariant-loop-i
invariant-loop-i l = l.shifted * 65536 ^ (l.more - l._i) ≡ l.bits * 65536 ^ l.more
