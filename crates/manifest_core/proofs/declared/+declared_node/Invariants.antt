use Rattle.std.proofs.Common.{length, ◌-◌, ◌<◌, ◌≡◌, drop, is_some, []}
use Rattle.access_tries.specs.Table.{has_mark}
use Rattle.access_tries.proofs.Unions.{IsUniting}
use Rattle.access_tries.proofs.Merging.{IsMerging}
use Rattle.manifest_core.specs.Mismatches.{is_declared_address}
use Rattle.manifest_core.proofs.Keeping.{IsKept}
use Rattle.manifest_core.proofs.declared.+declared_node.Given as goal

abbrev pub decreases-declared_node : goal.decreases-declared_node
decreases-declared_node l = length l.x.now - l.i

-- the links so far are those that are declared of the links behind which it goes on
abbrev pub invariant-loop-link : goal.invariant-loop-link
invariant-loop-link l = record {
  at_is : l.at ≡ length l.fn.nodes.items;
  at_in : l.at < length l.nodes.items;
  merging : IsMerging l.links.items (drop l.link-index l.link-items) [];
  nodes : IsUniting l.at l.fn.nodes.items l.nodes.items l.links.items;
  present : IsKept is_some (is_declared_address l.schema l.request_type l.t) l.nodes.items l.links.items l.x (drop l.link-index l.link-items) l.link-items;
  marked : IsKept has_mark (is_declared_address l.schema l.request_type l.t) l.nodes.items l.links.items l.x (drop l.link-index l.link-items) l.link-items;
}
