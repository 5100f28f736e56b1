use Rattle.std.proofs.Common.{◌≡◌, drop}
use Rattle.condition_risks.specs.Sides.{is_found}
use Rattle.condition_risks.specs.Listed.{expressions}
use Rattle.condition_risks.proofs.sides.is_found.Given as goal

-- it is among what is left exactly where it is among all
abbrev pub invariant-loop-known : goal.invariant-loop-known
invariant-loop-known l = is_found (expressions (drop l.known-index l.found.items)) l.x ≡ is_found (expressions l.found.items) l.x
