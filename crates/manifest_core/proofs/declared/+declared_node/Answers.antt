use Rattle.std.proofs.Common.{◌≡◌, Some, None, false, is_some, refl, sym, ap, ◌∙◌, arith}
use Rattle.std.specs.Option.{option_map_or}
use Rattle.access_tries.specs.Edges.{Address}
use Rattle.access_tries.specs.Table.{has_mark}
use Rattle.access_tries.proofs.Unions.{nodes_step, kept_at_end, closed_at_end, ordered_at_end}
use Rattle.manifest_core.specs.Mismatches.{type_behind, is_declared_address}
use Rattle.manifest_core.proofs.Keeping.{kept_without, kept_with, order_without, order_with, kept_in_place, none_left, is_there}
use Rattle.manifest_core.proofs.declared.+declared_node.Goals as goal

pub loop-link-preserved-in_default : goal.loop-link-preserved-in_default
loop-link-preserved-in_default t c =
    let i = c.loop-link.invariant in
    let s = c.args.schema.now in
    let r = c.args.request_type.now in
    let links = c.links_of-link-items.result.now in
    let link = c.link-item.result in
    let d = is_declared_address s r c.args.t.now in
    let none : type_behind s r c.args.t.now link.edge ≡ None = sym c.in_ok-behind.ensures ∙ c.in_default.is in
    let stop = λ (es : Address). ap (λ o. option_map_or (λ v. is_declared_address s r v es) o false) none in
    record {
      at_is = i.at_is;
      at_in = i.at_in;
      merging = order_without _ links c.loop-link.link-index link (omega arith) c.link-item.is i.merging;
      nodes = i.nodes;
      present = kept_without is_some d c.args.x.now links c.loop-link.link-index link (omega arith) c.link-item.is _ _ stop i.present;
      marked = kept_without has_mark d c.args.x.now links c.loop-link.link-index link (omega arith) c.link-item.is _ _ stop i.marked;
    }

pub loop-link-preserved : goal.loop-link-preserved
loop-link-preserved t c =
    let i = c.loop-link.invariant in
    let s = c.args.schema.now in
    let r = c.args.request_type.now in
    let links = c.links_of-link-items.result.now in
    let link = c.link-item.result in
    let d = is_declared_address s r c.args.t.now in
    let u = c.in-Some.behind in
    let fact = c.in_ok-number.ensures in
    let number = c.in_ok-number.number in
    let some : type_behind s r c.args.t.now link.edge ≡ Some u = sym c.in_ok-behind.ensures ∙ c.in-Some.is in
    let on = λ (es : Address). ap (λ o. option_map_or (λ v. is_declared_address s r v es) o false) some in
    record {
      at_is = i.at_is;
      at_in = omega (arith, i.at_in, fact.number);
      merging = rw c.in_ok-push-2.ensures.items (rw c.in_ok-edge.ensures (order_with _ links c.loop-link.link-index link (omega arith) c.link-item.is number i.merging));
      nodes = rw c.in_ok-push-2.ensures.items (rw c.in_ok-edge.ensures (nodes_step _ _ _ _ _ link.edge number i.at_in i.nodes fact.number.0 fact.number.1 fact.kept fact.closed fact.ordered));
      present = rw c.in_ok-push-2.ensures.items (rw c.in_ok-edge.ensures (kept_with is_some d c.args.x.now links c.loop-link.link-index link (omega arith) c.link-item.is _ _ _ _ _ number (is_declared_address s r u) i.nodes fact.kept fact.present on i.present));
      marked = rw c.in_ok-push-2.ensures.items (rw c.in_ok-edge.ensures (kept_with has_mark d c.args.x.now links c.loop-link.link-index link (omega arith) c.link-item.is _ _ _ _ _ number (is_declared_address s r u) i.nodes fact.kept fact.marked on i.marked));
    }

pub returns-clause-kept : goal.returns-clause-kept
returns-clause-kept t c = rw (← c.loop-link.invariant.at_is) (kept_at_end _ _ _ _ _ c.loop-link.invariant.nodes)

pub returns-clause-closed : goal.returns-clause-closed
returns-clause-closed t c = rw (← c.loop-link.invariant.at_is) (rw c.new-3.ensures (closed_at_end _ _ _ _ c.loop-link.invariant.at_in c.loop-link.invariant.nodes))

pub returns-clause-ordered : goal.returns-clause-ordered
returns-clause-ordered t c = rw (← c.loop-link.invariant.at_is) (rw c.new-3.ensures (ordered_at_end _ _ _ _ c.loop-link.invariant.at_in c.loop-link.invariant.nodes c.loop-link.invariant.merging.up))

pub returns-clause-present : goal.returns-clause-present
returns-clause-present t c =
    let links = c.links_of-link-items.result.now in
    let i = c.loop-link.invariant in
    rw c.new-3.ensures (kept_in_place is_some (is_declared_address c.args.schema.now c.args.request_type.now c.args.t.now) _ _ _ c.args.x.now _ c.args.i links _ i.at_in i.nodes i.present (none_left links c.loop-link.link-index (omega arith)) c.links_of-link-items.ensures (is_there c.args.x.now c.args.i c.requires.i_in) refl)

pub returns-clause-marked : goal.returns-clause-marked
returns-clause-marked t c =
    let links = c.links_of-link-items.result.now in
    let i = c.loop-link.invariant in
    rw c.new-3.ensures (kept_in_place has_mark (is_declared_address c.args.schema.now c.args.request_type.now c.args.t.now) _ _ _ c.args.x.now _ c.args.i links _ i.at_in i.nodes i.marked (none_left links c.loop-link.link-index (omega arith)) c.links_of-link-items.ensures c.mark_of-mark.ensures refl)
