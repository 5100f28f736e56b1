use Rattle.std.proofs.Common.{◌≡◌, ◌≤◌, ◌++◌, not, length, drop, take, filter}
use Rattle.condition_risks.specs.Sides.{is_found, remembered}
use Rattle.condition_risks.specs.Listed.{expressions}
use Rattle.condition_risks.proofs.sides.remember_new.Given as goal

-- what is remembered so far, and what is new of what is left
abbrev pub invariant-loop-y : goal.invariant-loop-y
invariant-loop-y l = record {
  so_far : take remembered (expressions l.all.items ++ filter (λ y. not (is_found (expressions l.xs.items) y)) (expressions (drop l.y-index l.ys.items)))
      ≡ take remembered (expressions l.fn.all.items ++ filter (λ y. not (is_found (expressions l.xs.items) y)) (expressions l.ys.items));
  few : length l.all.items ≤ remembered;
}
