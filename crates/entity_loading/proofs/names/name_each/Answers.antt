use Rattle.std.proofs.Common.{◌∙◌, subst}
use Rattle.policy_values.specs.Value.{fields_of}
use Rattle.reads_spec.specs.Restrict.{values_in}
use Rattle.entity_loading.specs.Names.{Names, SomeNames}
use Rattle.entity_loading.specs.Waiting.{Gives}
use Rattle.entity_loading.proofs.NameSteps.{naming_start, naming_more, naming_done, some_first, none_names}
use Rattle.entity_loading.proofs.ValueSteps.{values_are}
use Rattle.entity_loading.proofs.names.name_each.Goals as goal

pub loop-value-init : goal.loop-value-init
loop-value-init c =
    let w = c.args.trie.now in
    let same = c.into_iter-value-iterator.ensures.into_iter_gives ∙ c.values-value-items.ensures.rest ∙ values_are c.args.values.now.entries in
    record {
      naming = λ s. naming_start (SomeNames s (values_in (fields_of c.args.values.now.entries)) w) (SomeNames s c.into_iter-value-iterator.result w) (Gives s w c.args.ids.now c.args.waiting.now) (λ y. rw same ((λ n. n), (λ n. n)));
      later = λ k low h. h;
    }

pub loop-value-preserved : goal.loop-value-preserved
loop-value-preserved c =
    let v = c.in-Some.value.now in
    let w = c.args.trie.now in
    record {
      naming = λ s. naming_more (SomeNames s (values_in (fields_of c.args.values.now.entries)) w) (SomeNames s c.loop-value.value-iterator w) (Names s v w) (SomeNames s c.next.new.self w)
          (Gives s w c.args.ids.now c.args.waiting.now) (Gives s w c.loop-value.ids c.loop-value.waiting) (Gives s w c.name_at.new.ids c.name_at.new.waiting)
          (λ y. rw c.in-Some.ensures.steps (some_first s v c.next.new.self w y)) (c.loop-value.invariant.naming s) (c.in_ok-name_at.ensures.named s);
      later = λ k low h. c.in_ok-name_at.ensures.later k low (c.loop-value.invariant.later k low h);
    }

pub returns-clause-named : goal.returns-clause-named
returns-clause-named c = λ s.
    let w = c.args.trie.now in
    naming_done (SomeNames s (values_in (fields_of c.args.values.now.entries)) w) (SomeNames s c.loop-value.value-iterator w) (Gives s w c.args.ids.now c.args.waiting.now) (Gives s w c.loop-value.ids c.loop-value.waiting)
    (λ y n. none_names s w y (subst (λ l. SomeNames s l w y) c.in-None.ensures.steps.0 n)) (c.loop-value.invariant.naming s)
