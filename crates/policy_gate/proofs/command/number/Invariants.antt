use Rattle.std.proofs.Common.{◌≡◌, drop}
use Rattle.policy_ext.specs.NumberReading.{number_after}
use Rattle.policy_gate.proofs.command.number.Given as goal

abbrev pub invariant-loop-c : goal.invariant-loop-c
invariant-loop-c l = number_after 10 l.n (drop l.c-index l.digits) ≡ number_after 10 0 l.digits
