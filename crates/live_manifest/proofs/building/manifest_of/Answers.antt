use Rattle.std.proofs.Common.{◌≡◌, [], ◌∷◌, ◌++◌, map, sym, ap, ◌∙◌, arith}
use Rattle.std.specs.Option.{option_to_list}
use Rattle.std.specs.Vec.Iter.{into_iter_items}
use Rattle.plain_lemmas.proofs.Lists.{empty_of_length}
use Rattle.schema_core.specs.RequestEnvs.{env_data_of}
use Rattle.manifest_computation.proofs.Entries.{declared_here}
use Rattle.live_manifest.specs.Tries.{IsPlaced}
use Rattle.live_manifest.proofs.Walking.{all_placed, behind_here, one_more, one_placed, too_few}
use Rattle.live_manifest.proofs.building.manifest_of.Goals as goal

pub add_trie_of-requires-clause-declared : goal.add_trie_of-requires-clause-declared
add_trie_of-requires-clause-declared c =
    declared_here c.args.schema.now c.action_ids-actions.ensures.schema [] c.deref-env-items.result.now (ap (map env_data_of) c.deref-env-items.ensures.value ∙ c.in_ok-envs.ensures)
    c.loop-env.env-index c.env-item.result c.env-item.is c.loop-env-test.true

pub add_trie_of-requires-clause-next : goal.add_trie_of-requires-clause-next
add_trie_of-requires-clause-next c =
    behind_here c.args.schema.now c.action_ids-actions.ensures.schema c.deref-env-items.result.now (ap (map env_data_of) c.deref-env-items.ensures.value ∙ c.in_ok-envs.ensures)
    c.loop-env.env-index c.env-item.result c.env-item.is c.loop-env-test.true c.loop-env.per_action.entries c.loop-env.invariant.placed

pub loop-env-preserved : goal.loop-env-preserved
loop-env-preserved c =
    let added = c.in_ok-add_trie_of.ensures in
    let left : into_iter_items c.loop-env.left ≡ c.in-Some.trie ∷ into_iter_items c.next.new.self = c.next.ensures.items ∙ ap (λ o. option_to_list o ++ into_iter_items c.next.new.self) c.in-Some.is in
    record {
      placed = one_more IsPlaced c.deref-env-items.result.now c.loop-env.env-index c.env-item.result c.env-item.is c.loop-env-test.true c.loop-env.per_action.entries _ (added.0, c.in-Some.trie)
          c.loop-env.invariant.placed added.1.0 (record { request_type = added.1.1; table = c.nodes-nodes.ensures.table });
      tries = one_placed c.loop-env.per_action.entries _ (added.0, c.in-Some.trie) (into_iter_items c.loop-env.left) (into_iter_items c.next.new.self) c.args.tries.items added.1.0 left c.loop-env.invariant.tries;
    }

pub returns-in_default : goal.returns-in_default
returns-in_default c = λ long.
    absurd (too_few c.args.schema.now c.deref-env-items.result.now (ap (map env_data_of) c.deref-env-items.ensures.value ∙ c.in_ok-envs.ensures) c.loop-env.env-index c.loop-env.per_action.entries (into_iter_items c.loop-env.left) c.args.tries.items
    c.loop-env.invariant.placed c.loop-env.invariant.tries long c.loop-env-test.true
    (empty_of_length (into_iter_items c.loop-env.left) (sym c.loop-env.left.rest.ok.0 ∙ c.in_default.ensures.cases.0)))

pub returns : goal.returns
returns c = λ long.
    rw c.new-2.ensures
    (all_placed c.args.schema.now c.deref-env-items.result.now (ap (map env_data_of) c.deref-env-items.ensures.value ∙ c.in_ok-envs.ensures) c.loop-env.env-index c.loop-env.per_action.entries (into_iter_items c.loop-env.left) c.args.tries.items
    c.loop-env.invariant.placed c.loop-env.invariant.tries long (omega (arith, c.loop-env-test.false)))
