use Rattle.std.proofs.Common.{refl, is_some, arith}
use Rattle.access_tries.specs.Table.{has_mark}
use Rattle.access_tries.proofs.Merging.{merging_step}
use Rattle.access_tries.proofs.Unions.{next_in, nodes_step, split_step, kept_at_end, closed_at_end, ordered_at_end, paths_at_end, one_present}
use Rattle.access_tries.proofs.table.+unite.Goals as goal

pub loop-p-preserved : goal.loop-p-preserved
loop-p-preserved t c =
    let i = c.loop-p.invariant in
    let turn = c.turn_of-turn in
    let xs = c.links_of-xs.result.now in
    let ys = c.links_of-ys.result.now in
    let number = c.in_ok-number.number in
    let fact = c.in_ok-number.ensures in
    record {
      p_in = next_in xs _ _ _ _ _ i.p_in turn.ensures.left;
      q_in = next_in ys _ _ _ _ _ i.q_in turn.ensures.right;
      at_is = i.at_is;
      at_in = omega (arith, i.at_in, fact.number);
      merging = rw c.in_ok-push-2.ensures.items (rw c.in_ok-edge.ensures (merging_step _ xs ys _ _ _ _ _ _ _ _ number turn.result.edge.now i.merging turn.ensures.left turn.ensures.right turn.ensures.further turn.ensures.before_xs turn.ensures.before_ys));
      nodes = rw c.in_ok-push-2.ensures.items (rw c.in_ok-edge.ensures (nodes_step _ _ _ _ _ turn.result.edge.now number i.at_in i.nodes fact.number.0 fact.number.1 fact.kept fact.closed fact.ordered));
      present = rw c.in_ok-push-2.ensures.items (rw c.in_ok-edge.ensures (split_step is_some _ _ _ _ _ _ _ xs ys _ _ _ _ _ _ number turn.result.edge.now refl i.nodes fact.kept turn.ensures.left turn.ensures.right fact.present i.present));
      marked = rw c.in_ok-push-2.ensures.items (rw c.in_ok-edge.ensures (split_step has_mark _ _ _ _ _ _ _ xs ys _ _ _ _ _ _ number turn.result.edge.now refl i.nodes fact.kept turn.ensures.left turn.ensures.right fact.marked i.marked));
    }

pub returns-clause-kept : goal.returns-clause-kept
returns-clause-kept t c = rw (← c.loop-p.invariant.at_is) (kept_at_end _ _ _ _ _ c.loop-p.invariant.nodes)

pub returns-clause-closed : goal.returns-clause-closed
returns-clause-closed t c = rw (← c.loop-p.invariant.at_is) (rw c.new-3.ensures (closed_at_end _ _ _ _ c.loop-p.invariant.at_in c.loop-p.invariant.nodes))

pub returns-clause-ordered : goal.returns-clause-ordered
returns-clause-ordered t c = rw (← c.loop-p.invariant.at_is) (rw c.new-3.ensures (ordered_at_end _ _ _ _ c.loop-p.invariant.at_in c.loop-p.invariant.nodes c.loop-p.invariant.merging.up))

pub returns-clause-present : goal.returns-clause-present
returns-clause-present t c = rw c.new-3.ensures (paths_at_end is_some _ _ _ c.args.x.now c.args.y.now _ c.args.i c.args.j _ _ _ _ c.loop-p.invariant.at_in c.loop-p.invariant.nodes c.links_of-xs.ensures c.links_of-ys.ensures c.if-p-xs.false c.if-q-ys.false c.loop-p.invariant.present (one_present c.args.x.now c.args.y.now c.args.i c.args.j c.requires.some c.requires.j_in))

pub returns-clause-marked : goal.returns-clause-marked
returns-clause-marked t c = rw c.new-3.ensures (paths_at_end has_mark _ _ _ c.args.x.now c.args.y.now _ c.args.i c.args.j _ _ _ _ c.loop-p.invariant.at_in c.loop-p.invariant.nodes c.links_of-xs.ensures c.links_of-ys.ensures c.if-p-xs.false c.if-q-ys.false c.loop-p.invariant.marked (rw c.either-mark.ensures (rw c.mark_of.ensures (rw c.mark_of-2.ensures refl))))
