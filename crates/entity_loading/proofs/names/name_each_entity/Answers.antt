use Rattle.std.proofs.Common.{◌∙◌, subst, map}
use Rattle.policy_values.specs.Value.{entity}
use Rattle.entity_loading.specs.Names.{Names, SomeNames}
use Rattle.entity_loading.specs.Waiting.{Gives}
use Rattle.entity_loading.proofs.NameSteps.{naming_start, naming_more, naming_done, some_first, none_names}
use Rattle.entity_loading.proofs.names.name_each_entity.Goals as goal

pub loop-uid-init : goal.loop-uid-init
loop-uid-init c =
    let w = c.args.trie.now in
    let same = c.into_iter-uid-iterator.ensures.into_iter_gives ∙ c.iter-uid-items.ensures.rest in
    record {
      naming = λ s kept. naming_start (SomeNames s (map entity c.args.uids.now.keys) w) (SomeNames s (map entity c.into_iter-uid-iterator.result) w) (Gives s w c.args.ids.now c.args.waiting.now) (λ y. rw same ((λ n. n), (λ n. n)));
      later = λ k low h. h;
    }

pub loop-uid-preserved : goal.loop-uid-preserved
loop-uid-preserved c =
    let x = c.in-Some.uid.now in
    let w = c.args.trie.now in
    record {
      naming = λ s kept. naming_more (SomeNames s (map entity c.args.uids.now.keys) w) (SomeNames s (map entity c.loop-uid.uid-iterator) w) (Names s (entity x) w) (SomeNames s (map entity c.next.new.self) w)
          (Gives s w c.args.ids.now c.args.waiting.now) (Gives s w c.loop-uid.ids c.loop-uid.waiting) (Gives s w c.name_entity.new.ids c.name_entity.new.waiting)
          (λ y. rw c.in-Some.ensures.steps (some_first s (entity x) (map entity c.next.new.self) w y)) (c.loop-uid.invariant.naming s kept) (c.in_ok-name_entity.ensures.named s kept);
      later = λ k low h. c.in_ok-name_entity.ensures.later k low (c.loop-uid.invariant.later k low h);
    }

pub returns-clause-named : goal.returns-clause-named
returns-clause-named c = λ s kept.
    let w = c.args.trie.now in
    naming_done (SomeNames s (map entity c.args.uids.now.keys) w) (SomeNames s (map entity c.loop-uid.uid-iterator) w) (Gives s w c.args.ids.now c.args.waiting.now) (Gives s w c.loop-uid.ids c.loop-uid.waiting)
    (λ y n. none_names s w y (subst (λ l. SomeNames s (map entity l) w y) c.in-None.ensures.steps.0 n)) (c.loop-uid.invariant.naming s kept)
