use Rattle.policy_values.specs.Reaches.{leads}
use Rattle.policy_values.proofs.Turns.{IsTurn}
use Rattle.policy_values.proofs.reach.visit.Given as goal

abbrev pub invariant-loop-found : goal.invariant-loop-found
invariant-loop-found g l = IsTurn g.K.Ord.cmp (leads g.K.Ord.cmp l.steps.entries l.key) l.found-iterator l.fn.reached.keys l.reached.keys l.fn.waiting.items l.waiting.items
