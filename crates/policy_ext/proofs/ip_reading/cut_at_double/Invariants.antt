use Rattle.std.proofs.Common.{◌≡◌, ◌++◌, take, drop}
use Rattle.std.specs.Option.{option_map}
use Rattle.policy_ext.specs.IpReading.{cut_double}
use Rattle.policy_ext.proofs.ip_reading.cut_at_double.Given as goal

abbrev pub invariant-loop-i : goal.invariant-loop-i
invariant-loop-i l = option_map (λ p. (take l.i l.text ++ p.0, p.1)) (cut_double (drop l.i l.text)) ≡ cut_double l.text
