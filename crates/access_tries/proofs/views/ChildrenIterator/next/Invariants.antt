use Rattle.std.proofs.Common.{◌≡◌, length}
use Rattle.access_tries.specs.Table.{IsTable}
use Rattle.access_tries.specs.Views.{children_in}
use Rattle.access_tries.proofs.views.ChildrenIterator.next.Given as goal

-- what is left to give
abbrev pub invariant-loop-link : goal.invariant-loop-link
invariant-loop-link l = record {
  table : IsTable l.self-inside.nodes.now;
  same : children_in l.self-inside.nodes.now l.self-inside.links.now ≡ l.fn.self;
}

abbrev pub decreases-loop-link : goal.decreases-loop-link
decreases-loop-link l = length l.self-inside.links.now
