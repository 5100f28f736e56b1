use Rattle.std.proofs.Common.{[], arith, ap, sym, subst, ◌∙◌}
use Rattle.std.specs.List.{AllByRecursion}
use Rattle.policy_values.specs.Value.{size_of, size_of_all, vals_of, fields_of}
use Rattle.policy_values.specs.ValueOrder.{IsInOrder}
use Rattle.policy_values.proofs.Sizes.{size_of-get_or}
use Rattle.policy_values.specs.ValueView.{val_of}
use Rattle.serde_json.specs.Data.{array, object}
use Rattle.serde_json.specs.View.{items_of, members_view}
use Rattle.serde_json.proofs.Views.{view-Array, view-Object}
use Rattle.json_values.specs.Values.{value_fields_of}
use Rattle.json_response.specs.ReadBack.{IsReadBack}
use Rattle.json_response.specs.ValueJson.{value_data}
use Rattle.json_response.proofs.ReadBack.{set_back, fields_back}
use Rattle.json_response.proofs.Steps.{items_of_map, with_fields, with_rest}
use Rattle.json_response.proofs.values.+write.Goals as goal

pub write-returns-in_ok-items-in-Set : goal.write-returns-in_ok-items-in-Set
write-returns-in_ok-items-in-Set t c =
    let xs = c.in-Set.items.items in
    let is = sym (ap val_of c.in-Set.is) ∙ c.kind.ensures.content in
    record {
      written = view-Array c.in_ok-items-in-Set.items
          ∙ ap (λ ds. array (items_of ds)) c.in_ok-items-in-Set.ensures.written
          ∙ ap array (items_of_map xs)
          ∙ ap value_data is;
      read_back = subst IsReadBack is (set_back xs (subst IsInOrder (sym is) c.kind.ensures.in_order) c.in_ok-items-in-Set.ensures.read_back);
    }

pub write_items-write-requires : goal.write_items-write-requires
write_items-write-requires t c =
    let items = c.deref-item-items.result.now in
    let whole = ap (λ xs. size_of_all (vals_of xs)) c.deref-item-items.ensures.value in
    (omega (arith, ap size_of c.item-item.is, size_of-get_or items c.loop-item.item-index c.item-item.result (omega arith), whole), tt)

pub write_fields-returns-clause-written : goal.write_fields-returns-clause-written
write_fields-returns-clause-written t c =
    let written = c.loop-key.members in
    let none_left = ap (λ es. with_fields (fields_of es) (members_view written.entries)) c.in-None.ensures.steps.0 in
    view-Object written
    ∙ ap object (sym none_left ∙ c.loop-key.invariant.written ∙ with_rest [] c.args.fields.now.entries c.iter-key-items.ensures.ordered)

pub write_fields-returns-clause-read_back : goal.write_fields-returns-clause-read_back
write_fields-returns-clause-read_back t c =
    let written = c.loop-key.members in
    let none_left = ap (λ es. with_fields (fields_of es) (members_view written.entries)) c.in-None.ensures.steps.0 in
    ap value_fields_of (view-Object written
    ∙ ap object (sym none_left ∙ c.loop-key.invariant.written ∙ with_rest [] c.args.fields.now.entries c.iter-key-items.ensures.ordered))
    ∙ fields_back c.args.fields.now.entries (c.loop-key.invariant.read_back (subst (AllByRecursion (λ e. IsReadBack e.1)) (sym c.in-None.ensures.steps.0) tt))
