use Rattle.std.proofs.Common.{◌≡◌, ◌∙◌, [], sym, arith}
use Rattle.std.specs.Vec.Iter.{into_iter_items}
use Rattle.std.proofs.lemmas.List.{nil_from_length}
use Rattle.std.proofs.lemmas.List.Elements.{All-from_recursion}
use Rattle.policy_values.proofs.Keyed.{value_found, keys_ascend}
use Rattle.policy_values.specs.Uid.{uid_cmp}
use Rattle.entity_store.proofs.Placed.{filled_more, all_filled}
use Rattle.entity_store.proofs.entities.under_ids.Goals as goal

pub loop-entity-preserved : goal.loop-entity-preserved
loop-entity-preserved c = filled_more c.args.entities.items c.requires c.loop-entity.yielded _ c.loop-entity.placed c.add.new.entities c.loop-entity.invariant c.in-Some.entity _ c.in-Some.ensures.steps.0 c.in_ok-add.ensures.stored c.in_ok-add.ensures.added

pub returns : goal.returns
returns c =
    let none : into_iter_items c.loop-entity.entity-iterator ≡ [] = nil_from_length _ (omega (arith, c.in-None.ensures.steps.0)) in
    let stored = c.loop-entity.invariant.stored in
    record {
      ordered = keys_ascend uid_cmp (λ e. e.uid) c.loop-entity.placed stored.keyed;
      kept = λ q. sym (value_found uid_cmp (λ e. e.uid) c.loop-entity.placed stored.keyed q) ∙ all_filled c.args.entities.items c.loop-entity.yielded c.loop-entity.placed (rw none at c.loop-entity.invariant) q;
      ascending = All-from_recursion _ _ stored.ancestors;
    }
