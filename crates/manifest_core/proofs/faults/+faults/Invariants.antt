use Rattle.std.proofs.Common.{◌≡◌, ◌-◌, ◌+◌, ◌*◌, length, drop}
use Rattle.access_tries.specs.Trees.{branches_by, branch_at}
use Rattle.manifest_core.specs.Mismatches.{first_among}
use Rattle.manifest_core.proofs.faults.+faults.Given as goal

abbrev pub decreases-first_below : goal.decreases-first_below
decreases-first_below l = 2 * (length l.nodes.now - l.number)

abbrev pub decreases-first_behind : goal.decreases-first_behind
decreases-first_behind l = 2 * (length l.nodes.now - l.link.now.number) + 1

-- the first fault is among the links that are left
abbrev pub invariant-first_below-loop-link : goal.invariant-first_below-loop-link
invariant-first_below-loop-link l =
    first_among l.schema l.request_type l.t (branches_by (branch_at l.nodes) (drop l.link-index l.link-items)) ≡ first_among l.schema l.request_type l.t (branches_by (branch_at l.nodes) l.link-items)
