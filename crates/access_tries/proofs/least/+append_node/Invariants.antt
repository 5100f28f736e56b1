use Rattle.std.proofs.Common.{length, ◌<◌, ◌≤◌, ◌≡◌, is_some}
use Rattle.access_tries.specs.Table.{has_mark}
use Rattle.access_tries.specs.Tails.{tails}
use Rattle.access_tries.proofs.Tails.{edge_count}
use Rattle.access_tries.proofs.Unions.{IsUniting}
use Rattle.access_tries.proofs.Groups.{any_prefix, any_marked, IsGathered, IsGrouping}
use Rattle.access_tries.proofs.least.+append_node.Given as goal

-- each edge of the addresses that is not yet passed
abbrev pub decreases-append_node : goal.decreases-append_node
decreases-append_node l = edge_count (tails l.depth l.addresses.now)

-- the node that is made holds the groups so far, and the other addresses are left
abbrev pub invariant-loop-rest : goal.invariant-loop-rest
invariant-loop-rest l = record {
  at_is : l.at ≡ length l.fn.nodes.items;
  at_in : l.at < length l.nodes.items;
  fewer : edge_count (tails l.depth l.rest) ≤ edge_count (tails l.depth l.addresses);
  nodes : IsUniting l.at l.fn.nodes.items l.nodes.items l.links.items;
  grouping : IsGrouping l.links.items (tails l.depth l.rest);
  present : IsGathered is_some any_prefix l.nodes.items l.links.items (tails l.depth l.rest) (tails l.depth l.addresses);
  marked : IsGathered has_mark (any_marked l.mark) l.nodes.items l.links.items (tails l.depth l.rest) (tails l.depth l.addresses);
}

abbrev pub decreases-loop-rest : goal.decreases-loop-rest
decreases-loop-rest l = length l.rest
