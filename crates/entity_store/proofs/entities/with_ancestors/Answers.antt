use Rattle.std.proofs.Common.{◌++◌, ◌∷◌, [], ap, sym, ◌∙◌}
use Rattle.std.specs.BTreeMap.{get}
use Rattle.std.proofs.lemmas.List.{append_assoc}
use Rattle.policy_values.specs.Uid.{uid_cmp}
use Rattle.entity_store.proofs.Placed.{linked_more, linked_some, linked_none}
use Rattle.entity_store.proofs.entities.with_ancestors.Goals as goal

pub loop-entity-preserved-in_ok-push-in-Some-get : goal.loop-entity-preserved-in_ok-push-in-Some-get
loop-entity-preserved-in_ok-push-in-Some-get c =
    let e = c.in-Some.entity in
    let links = get uid_cmp c.args.ancestors.now in
    let reached = c.in-Some-get.reached.now in
    record {
      split = c.loop-entity.invariant.split ∙ ap (λ l. c.loop-entity.yielded ++ l) c.in-Some.ensures.steps.0 ∙ sym (append_assoc c.loop-entity.yielded (e ∷ []) _);
      made = linked_more links c.loop-entity.yielded e _ _ c.loop-entity.invariant.made c.with_ancestors.result
          (rw c.in_ok-try_clone-in-Some-get.ensures at c.with_ancestors.ensures.value ∙ linked_some links e reached (rw c.uid.ensures at (sym c.in-Some-get.ensures.value))) c.in_ok-push-in-Some-get.ensures.items;
    }

pub loop-entity-preserved : goal.loop-entity-preserved
loop-entity-preserved c =
    let e = c.in-Some.entity in
    let links = get uid_cmp c.args.ancestors.now in
    record {
      split = c.loop-entity.invariant.split ∙ ap (λ l. c.loop-entity.yielded ++ l) c.in-Some.ensures.steps.0 ∙ sym (append_assoc c.loop-entity.yielded (e ∷ []) _);
      made = linked_more links c.loop-entity.yielded e _ _ c.loop-entity.invariant.made e (linked_none links e (rw c.uid.ensures at (sym c.in-None-get.ensures.value))) c.in_ok-push-in-None-get.ensures.items;
    }
