use Rattle.std.proofs.Common.{arith, ◌∙◌, drop, length-drop}
use Rattle.policy_ext.proofs.DurationFacts.{strip_empty}
use Rattle.policy_ext.proofs.duration.without_unit.Goals as goal

pub returns-in-empty : goal.returns-in-empty
returns-in-empty c = strip_empty (drop c.loop-letter.letter-index c.args.letters.now) c.loop-letter.rest.now (omega (arith, length-drop c.loop-letter.letter-index c.args.letters.now)) (omega arith) ∙ c.loop-letter.invariant
