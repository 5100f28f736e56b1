use Rattle.std.proofs.Common.{◌+◌, ◌-◌, length}
use Rattle.policy_values.specs.Reaches.{leads}
use Rattle.policy_values.proofs.Search.{IsSearch, named}
use Rattle.policy_values.proofs.reach.reached_from.Given as goal

abbrev pub invariant-loop-key : goal.invariant-loop-key
invariant-loop-key g l = IsSearch g.K.Ord.cmp (leads g.K.Ord.cmp l.steps.entries) l.from l.reached.keys l.waiting.items

abbrev pub decreases-loop-key : goal.decreases-loop-key
decreases-loop-key g l = length (named l.steps.entries) - length l.reached.keys + length l.waiting.items
