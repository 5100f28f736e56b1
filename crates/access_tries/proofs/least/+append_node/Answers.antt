use Rattle.std.proofs.Common.{◌<◌, ◌≡◌, length, rules, Some, None, is_some, subst, ap, ◌∙◌, arith}
use Rattle.access_tries.specs.Table.{has_mark}
use Rattle.access_tries.specs.Tails.{tails}
use Rattle.access_tries.proofs.Addresses.{none_in}
use Rattle.access_tries.proofs.Unions.{nodes_step, kept_at_end, closed_at_end, ordered_at_end}
use Rattle.access_tries.proofs.Tails.{turn, edges_of, rises_below, edge_count, edges_after_ends, left_of_ends, run_in, tails_length, prefix_of_none}
use Rattle.access_tries.proofs.Groups.{uniting_start, any_prefix, any_marked, IsGathered, searches_prefixes, searches_marked, gather_start, gather_step, gather_end, grouping_start, grouping_step, first_further}
use Rattle.access_tries.proofs.least.+append_node.Goals as goal

pub split_at-requires : goal.split_at-requires
split_at-requires t c = run_in None c.args.depth _ c.args.addresses.now c.run_of.ensures

pub loop-rest-init : goal.loop-rest-init
loop-rest-init t c =
    let ts = tails c.args.depth c.args.addresses.now in
    let left = left_of_ends c.args.depth _ c.args.addresses.now c.split_at.result.1.now c.run_of.ensures c.split_at.ensures.back in
    let links = c.in_ok-links.ensures.items in
    let at_is : c.len-at.result ≡ length c.args.nodes.now.items = search rules in
    let none = ap (λ n. n.links) c.new-2.ensures ∙ c.new.ensures.items in
    record {
      at_is = at_is;
      at_in = search rules;
      fewer = omega (arith, ap edge_count left, edges_after_ends ts);
      nodes = rw links (rw c.in_ok-push.ensures.items (rw at_is (uniting_start c.args.nodes.now.items c.new-2.result none)));
      grouping = rw links (rw left (grouping_start ts c.requires.rise));
      present = rw links (rw left (gather_start is_some any_prefix _ ts searches_prefixes));
      marked = rw links (rw left (gather_start has_mark (any_marked c.args.mark) _ ts (searches_marked c.args.mark)));
    }

pub edge_at-behind-requires : goal.edge_at-behind-requires
edge_at-behind-requires t c = first_further c.args.depth c.loop-rest.rest.now c.first-item.result (omega arith) c.first-item.is c.loop-rest.invariant.grouping.further

pub split_at-requires-in-len1-up : goal.split_at-requires-in-len1-up
split_at-requires-in-len1-up t c = run_in (Some c.edge_at-behind.result.0.now) c.args.depth _ c.loop-rest.rest.now c.run_of-in-len1-up.ensures

pub append_node-requires : goal.append_node-requires
append_node-requires t c =
    let i = c.loop-rest.invariant in
    let depth = c.args.depth in
    let rest = c.loop-rest.rest.now in
    let first = c.first-item.result in
    let group = c.split_at-in-len1-up.result.0.now in
    let others = c.split_at-in-len1-up.result.1.now in
    let edge = c.edge_at-behind.result.0.now in
    let behind = c.edge_at-behind.result.1 in
    let some : 0 < length rest = omega arith in
    let within = first_further depth rest first some c.first-item.is i.grouping.further in
    let next = turn depth behind edge first rest group others _ some c.first-item.is within c.edge_at-behind.ensures.edge i.grouping.rise c.edge_at-behind.ensures.behind c.run_of-in-len1-up.ensures c.split_at-in-len1-up.ensures.front c.split_at-in-len1-up.ensures.back in
    let below = tails behind group in
    let after = tails depth others in
    let left = tails depth rest in
    let long : 0 < length below = omega (arith, tails_length behind group, next.some) in
    (omega (arith, c.decreases, i.fewer, long, edges_of edge below after left next.parted), (next.some, rises_below edge below after left next.parted i.grouping.rise))

pub loop-rest-preserved : goal.loop-rest-preserved
loop-rest-preserved t c =
    let i = c.loop-rest.invariant in
    let depth = c.args.depth in
    let rest = c.loop-rest.rest.now in
    let first = c.first-item.result in
    let group = c.split_at-in-len1-up.result.0.now in
    let others = c.split_at-in-len1-up.result.1.now in
    let edge = c.edge_at-behind.result.0.now in
    let behind = c.edge_at-behind.result.1 in
    let some : 0 < length rest = omega arith in
    let within = first_further depth rest first some c.first-item.is i.grouping.further in
    let next = turn depth behind edge first rest group others _ some c.first-item.is within c.edge_at-behind.ensures.edge i.grouping.rise c.edge_at-behind.ensures.behind c.run_of-in-len1-up.ensures c.split_at-in-len1-up.ensures.front c.split_at-in-len1-up.ensures.back in
    let below = tails behind group in
    let after = tails depth others in
    let left = tails depth rest in
    let long : 0 < length below = omega (arith, tails_length behind group, next.some) in
    let all = tails depth c.args.addresses.now in
    let number = c.in_ok-number.number in
    let fact = c.in_ok-number.ensures in
    record {
      at_is = i.at_is;
      at_in = omega (arith, i.at_in, fact.number);
      fewer = omega (arith, i.fewer, edges_of edge below after left next.parted);
      nodes = rw c.in_ok-push-2.ensures.items (rw c.in_ok-edge.ensures (nodes_step _ _ _ _ _ edge number i.at_in i.nodes fact.number.0 fact.number.1 fact.kept fact.closed fact.ordered));
      grouping = rw c.in_ok-push-2.ensures.items (rw c.in_ok-edge.ensures (grouping_step _ edge number below after left long next.parted i.grouping));
      present = rw c.in_ok-push-2.ensures.items (rw c.in_ok-edge.ensures (gather_step is_some any_prefix _ _ _ _ _ edge number below after left all searches_prefixes i.nodes fact.kept next.parted fact.present i.present));
      marked = rw c.in_ok-push-2.ensures.items (rw c.in_ok-edge.ensures (gather_step has_mark (any_marked c.args.mark) _ _ _ _ _ edge number below after left all (searches_marked c.args.mark) i.nodes fact.kept next.parted fact.marked i.marked));
    }

pub loop-rest-smaller : goal.loop-rest-smaller
loop-rest-smaller t c =
    let i = c.loop-rest.invariant in
    let depth = c.args.depth in
    let rest = c.loop-rest.rest.now in
    let first = c.first-item.result in
    let group = c.split_at-in-len1-up.result.0.now in
    let others = c.split_at-in-len1-up.result.1.now in
    let edge = c.edge_at-behind.result.0.now in
    let behind = c.edge_at-behind.result.1 in
    let some : 0 < length rest = omega arith in
    let within = first_further depth rest first some c.first-item.is i.grouping.further in
    let next = turn depth behind edge first rest group others _ some c.first-item.is within c.edge_at-behind.ensures.edge i.grouping.rise c.edge_at-behind.ensures.behind c.run_of-in-len1-up.ensures c.split_at-in-len1-up.ensures.front c.split_at-in-len1-up.ensures.back in
    let below = tails behind group in
    let after = tails depth others in
    let left = tails depth rest in
    let long : 0 < length below = omega (arith, tails_length behind group, next.some) in
    omega (arith, next.some, c.split_at-in-len1-up.ensures.front_len, c.split_at-in-len1-up.ensures.back_len)

pub returns-clause-kept : goal.returns-clause-kept
returns-clause-kept t c = rw (← c.loop-rest.invariant.at_is) (kept_at_end _ _ _ _ _ c.loop-rest.invariant.nodes)

pub returns-clause-closed : goal.returns-clause-closed
returns-clause-closed t c = rw (← c.loop-rest.invariant.at_is) (rw c.new-3.ensures (closed_at_end _ _ _ _ c.loop-rest.invariant.at_in c.loop-rest.invariant.nodes))

pub returns-clause-ordered : goal.returns-clause-ordered
returns-clause-ordered t c = rw (← c.loop-rest.invariant.at_is) (rw c.new-3.ensures (ordered_at_end _ _ _ _ c.loop-rest.invariant.at_in c.loop-rest.invariant.nodes c.loop-rest.invariant.grouping.up))

pub returns-clause-present : goal.returns-clause-present
returns-clause-present t c =
    let i = c.loop-rest.invariant in
    let all = tails c.args.depth c.args.addresses.now in
    let gathered = subst (λ rs. IsGathered is_some any_prefix c.loop-rest.nodes.items c.loop-rest.links.items (tails c.args.depth rs) all) (none_in c.loop-rest.rest.now c.in_default.len_below) i.present in
    rw c.new-3.ensures (gather_end is_some any_prefix _ _ _ _ all i.at_in searches_prefixes i.nodes gathered (prefix_of_none c.args.depth c.args.addresses.now c.requires.some))

pub returns-clause-marked : goal.returns-clause-marked
returns-clause-marked t c =
    let i = c.loop-rest.invariant in
    let all = tails c.args.depth c.args.addresses.now in
    let gathered = subst (λ rs. IsGathered has_mark (any_marked c.args.mark) c.loop-rest.nodes.items c.loop-rest.links.items (tails c.args.depth rs) all) (none_in c.loop-rest.rest.now c.in_default.len_below) i.marked in
    rw c.new-3.ensures (gather_end has_mark (any_marked c.args.mark) _ _ _ _ all i.at_in (searches_marked c.args.mark) i.nodes gathered c.marks_first-marked.ensures)
