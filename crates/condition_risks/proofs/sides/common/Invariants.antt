use Rattle.std.proofs.Common.{◌≡◌, ◌++◌, drop, filter}
use Rattle.condition_risks.specs.Sides.{is_found}
use Rattle.condition_risks.specs.Listed.{expressions}
use Rattle.condition_risks.proofs.sides.common.Given as goal

-- what is kept so far, and what is kept of what is left
abbrev pub invariant-loop-x : goal.invariant-loop-x
invariant-loop-x l = expressions l.all.items ++ filter (is_found (expressions l.ys.items)) (expressions (drop l.x-index l.xs.items)) ≡ filter (is_found (expressions l.ys.items)) (expressions l.xs.items)
