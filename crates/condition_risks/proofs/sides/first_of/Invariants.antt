use Rattle.std.proofs.Common.{◌≡◌, ◌≤◌, ◌++◌, length, drop, take}
use Rattle.condition_risks.specs.Sides.{remembered}
use Rattle.condition_risks.specs.Listed.{expressions}
use Rattle.condition_risks.proofs.sides.first_of.Given as goal

-- what is remembered so far, and what is left
abbrev pub invariant-loop-x : goal.invariant-loop-x
invariant-loop-x l = record {
  so_far : take remembered (expressions l.all.items ++ expressions (drop l.x-index l.xs.items)) ≡ take remembered (expressions l.xs.items);
  few : length l.all.items ≤ remembered;
}
