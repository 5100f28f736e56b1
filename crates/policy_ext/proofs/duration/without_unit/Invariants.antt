use Rattle.std.proofs.Common.{◌≡◌, drop}
use Rattle.policy_ext.specs.DurationReading.{strip}
use Rattle.policy_ext.proofs.duration.without_unit.Given as goal

abbrev pub invariant-loop-letter : goal.invariant-loop-letter
invariant-loop-letter l = strip (drop l.letter-index l.letters) l.rest ≡ strip l.letters l.text
