use Rattle.std.proofs.Common.{◌≡◌, ◌+◌, ◌∷◌, suc, true, sym, ap, ◌∙◌, drop, drop-cons, add-one}
use Rattle.reads_spec.specs.Restrict.{is_id, lists_id}
use Rattle.policy_values.specs.Value.{vals_of}
use Rattle.entity_loading.specs.Waiting.{Has}
use Rattle.entity_loading.proofs.NameSteps.{naming_more, or_iff}
use Rattle.entity_loading.proofs.names.add_ids.Goals as goal

pub loop-value-preserved : goal.loop-value-preserved
loop-value-preserved c =
    let v = c.value-item.result in
    let i = c.loop-value.value-index in
    let items = c.deref-value-items.result.now in
    let split : drop i items ≡ v ∷ drop (i + 1) items = rw (add-one i) (drop-cons items i v c.loop-value-test.true ∙ ap (λ k. k ∷ drop (suc i) items) (sym c.value-item.is)) in
    naming_more (λ y. lists_id y (vals_of c.args.values.now.items) ≡ true) (λ y. lists_id y (vals_of (drop i items)) ≡ true) (λ y. is_id y v ≡ true) (λ y. lists_id y (vals_of (drop (i + 1) items)) ≡ true)
    (Has c.args.ids.now) (Has c.loop-value.ids) (Has c.add_id.new.ids) (λ y. rw split (or_iff (is_id y v) (lists_id y (vals_of (drop (i + 1) items))))) c.loop-value.invariant c.in_ok-add_id.ensures
