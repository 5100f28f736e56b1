use Rattle.std.proofs.Common.{◌≡◌, ◌≤◌, ◌+◌, ◌*◌, ◌++◌, drop, map, max}
use Rattle.policy_expressions.specs.Tree.{depth_of, deepest, deepest_named, trees_of, named_of}
use Rattle.condition_risks.specs.Risks.{risks_all, risks_named}
use Rattle.condition_risks.specs.Listed.{risk_of, expressions}
use Rattle.condition_risks.proofs.walk.+walk.Given as goal

abbrev pub decreases-walk : goal.decreases-walk
decreases-walk l = 3 * depth_of l.e.now

abbrev pub decreases-walk_behind : goal.decreases-walk_behind
decreases-walk_behind l = 3 * depth_of l.y.now + 1

abbrev pub decreases-walk_if : goal.decreases-walk_if
decreases-walk_if l = 3 * max (depth_of l.x.now) (max (depth_of l.y.now) (depth_of l.z.now)) + 2

abbrev pub decreases-walk_and : goal.decreases-walk_and
decreases-walk_and l = 3 * max (depth_of l.x.now) (depth_of l.y.now) + 2

abbrev pub decreases-walk_or : goal.decreases-walk_or
decreases-walk_or l = 3 * max (depth_of l.x.now) (depth_of l.y.now) + 2

abbrev pub decreases-walk_all : goal.decreases-walk_all
decreases-walk_all l = 3 * deepest (trees_of l.xs.now.items) + 1

abbrev pub decreases-walk_named : goal.decreases-walk_named
decreases-walk_named l = 3 * deepest_named (named_of l.fields.now.entries) + 1

-- the risks so far, and then those of what is left
abbrev pub invariant-walk_all-loop-x : goal.invariant-walk_all-loop-x
invariant-walk_all-loop-x l =
    map risk_of l.found.items ++ risks_all (expressions l.stored.items) (expressions l.known.items) (trees_of (drop l.x-index l.xs.items)) ≡ map risk_of l.fn.found.items ++ risks_all (expressions l.stored.items) (expressions l.known.items) (trees_of l.xs.items)

abbrev pub invariant-walk_named-loop-x : goal.invariant-walk_named-loop-x
invariant-walk_named-loop-x l = record {
  so_far : map risk_of l.found.items ++ risks_named (expressions l.stored.items) (expressions l.known.items) (named_of l.x-iterator) ≡ map risk_of l.fn.found.items ++ risks_named (expressions l.stored.items) (expressions l.known.items) (named_of l.fields.entries);
  depth : deepest_named (named_of l.x-iterator) ≤ deepest_named (named_of l.fields.entries);
}
