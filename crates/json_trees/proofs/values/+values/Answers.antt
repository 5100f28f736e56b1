use Rattle.std.proofs.Common.{◌≡◌, string_bytes, ap, ap₂, sym, ◌∙◌, arith, rules}
use Rattle.std.specs.Vec.Iter.{into_iter_items}
use Rattle.json.specs.Value as tree
use Rattle.json.proofs.Trees as trees
use Rattle.serde_json.specs.Data.{array, put}
use Rattle.serde_json.specs.View.{members_view}
use Rattle.serde_json.proofs.Views.{view-Array, members_view-insert_entry}
use Rattle.json_trees.specs.Trees.{members_data}
use Rattle.json_trees.proofs.Said.{items_said}
use Rattle.json_trees.proofs.Weight.{items_weight, members_weight, one-le-items_weight, one-le-members_weight}
use Rattle.json_trees.proofs.values.+values.Goals as goal

pub value_of-returns-in_ok-values_of-in-Array : goal.value_of-returns-in_ok-values_of-in-Array
value_of-returns-in_ok-values_of-in-Array t c = rw (c.in-Array.is, trees.view-Array c.in-Array.items)
    (view-Array c.in_ok-values_of-in-Array.field-0 ∙ ap array (c.in_ok-values_of-in-Array.ensures ∙ sym (items_said c.in-Array.items.items)))

pub values_of-value_of-requires : goal.values_of-value_of-requires
values_of-value_of-requires t c =
    let first = ap (λ ts. items_weight (tree.items_view ts)) c.in-Some.ensures.steps.0 in
    let rest = one-le-items_weight (tree.items_view (into_iter_items c.next.new.self)) in
    (omega arith, tt)

pub members_of-value_of-requires : goal.members_of-value_of-requires
members_of-value_of-requires t c =
    let first = ap (λ ms. members_weight (tree.members_view ms)) c.in-Some.ensures.steps.0 in
    let rest = one-le-members_weight (tree.members_view (into_iter_items c.next.new.self)) in
    (omega arith, tt)

pub members_of-loop-member-preserved : goal.members_of-loop-member-preserved
members_of-loop-member-preserved t c =
    let m = c.in-Some.member in
    let old = members_view c.loop-member.found.entries in
    let rest = into_iter_items c.next.new.self in
    let copied : string_bytes c.in_ok-name.name ≡ m.0.now = search rules in
    let inserted : members_view c.insert.new.self.entries ≡ put m.0.now _ old =
    ap members_view c.in_ok-insert.ensures.entries ∙ members_view-insert_entry c.loop-member.found.entries c.in_ok-name.name c.in_ok-value.value ∙ ap₂ (λ n d. put n d old) copied c.in_ok-value.ensures in
    let first = ap (λ ms. members_weight (tree.members_view ms)) c.in-Some.ensures.steps.0 in
    record {
      made = ap (members_data (tree.members_view rest)) inserted ∙ sym (ap (λ xs. members_data (tree.members_view xs) old) c.in-Some.ensures.steps.0) ∙ c.loop-member.invariant.made;
      lighter = omega (arith, c.loop-member.invariant.lighter);
    }
