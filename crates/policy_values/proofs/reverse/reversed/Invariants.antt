use Rattle.std.specs.Map.{keys_of}
use Rattle.policy_values.proofs.Back.{IsTurnedBut, IsTurnedButOf}
use Rattle.policy_values.proofs.reverse.reversed.Given as goal

abbrev pub invariant-loop-key : goal.invariant-loop-key
invariant-loop-key g l = IsTurnedBut g.K.Ord.cmp l.steps.entries l.back.entries (keys_of l.key-iterator)

abbrev pub invariant-loop-other : goal.invariant-loop-other
invariant-loop-other g l = IsTurnedButOf g.K.Ord.cmp l.steps.entries l.back.entries (keys_of l.key-iterator) l.key l.other-iterator
