use Rattle.std.proofs.Common.{◌≡◌, ◌++◌, take, drop, List, ℕ}
use Rattle.policy_ext.specs.DurationReading.{cut_digits}
use Rattle.policy_ext.proofs.duration.split_digits.Given as goal

abbrev pub invariant-loop-i : goal.invariant-loop-i
invariant-loop-i l = ◌≡◌ {A = List ℕ × List ℕ} (take l.i l.text ++ (cut_digits (drop l.i l.text)).0, (cut_digits (drop l.i l.text)).1) (cut_digits l.text)
