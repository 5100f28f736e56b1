use Rattle.std.proofs.Common.{length, ◌-◌, ◌+◌, ◌<◌, ◌≤◌, ◌≡◌, drop, is_some}
use Rattle.access_tries.specs.Table.{has_mark}
use Rattle.access_tries.proofs.Merging.{IsMerging}
use Rattle.access_tries.proofs.Unions.{IsUniting, IsSplit}
use Rattle.access_tries.proofs.table.+unite.Given as goal

abbrev pub decreases-unite : goal.decreases-unite
decreases-unite l = (length l.x.now - l.i) + (length l.y.now - l.j)

-- the node that is made holds what was taken of both lists, and the rest is left
abbrev pub invariant-loop-p : goal.invariant-loop-p
invariant-loop-p l = record {
  p_in : l.p ≤ length l.xs;
  q_in : l.q ≤ length l.ys;
  at_is : l.at ≡ length l.fn.nodes.items;
  at_in : l.at < length l.nodes.items;
  merging : IsMerging l.links.items (drop l.p l.xs) (drop l.q l.ys);
  nodes : IsUniting l.at l.fn.nodes.items l.nodes.items l.links.items;
  present : IsSplit is_some l.nodes.items l.links.items l.x (drop l.p l.xs) l.xs l.y (drop l.q l.ys) l.ys;
  marked : IsSplit has_mark l.nodes.items l.links.items l.x (drop l.p l.xs) l.xs l.y (drop l.q l.ys) l.ys;
}

abbrev pub decreases-loop-p : goal.decreases-loop-p
decreases-loop-p l = (length l.xs - l.p) + (length l.ys - l.q)
