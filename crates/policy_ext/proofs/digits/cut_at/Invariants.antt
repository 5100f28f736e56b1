use Rattle.std.proofs.Common.{◌≡◌, ◌++◌, take, drop}
use Rattle.std.specs.Option.{option_map}
use Rattle.policy_ext.specs.NumberReading.{cut}
use Rattle.policy_ext.proofs.digits.cut_at.Given as goal

abbrev pub invariant-loop-i : goal.invariant-loop-i
invariant-loop-i l = option_map (λ p. (take l.i l.text ++ p.0, p.1)) (cut l.mark (drop l.i l.text)) ≡ cut l.mark l.text
