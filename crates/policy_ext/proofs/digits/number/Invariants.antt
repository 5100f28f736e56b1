use Rattle.std.proofs.Common.{◌≡◌, drop}
use Rattle.policy_ext.specs.NumberReading.{number_after}
use Rattle.policy_ext.proofs.digits.number.Given as goal

abbrev pub invariant-loop-c : goal.invariant-loop-c
invariant-loop-c l = number_after l.radix l.n (drop l.c-index l.digits) ≡ number_after l.radix 0 l.digits
