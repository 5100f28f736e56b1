use Rattle.std.proofs.Common.{sym, ◌∙◌, subst}
use Rattle.std.specs.Prelude.{◌↔◌}
use Rattle.access_tries.specs.Table.{IsTable}
use Rattle.access_tries.specs.Views.{whole}
use Rattle.reads_spec.specs.Restrict.{root_value}
use Rattle.entity_loading.specs.Names.{IsNamed, Names}
use Rattle.entity_loading.specs.Waiting.{Has, Gives, WaitFrom}
use Rattle.entity_loading.proofs.NameSteps.{naming_start, naming_more, naming_done, RootNames, named_roots, root_first_names, no_root_names}
use Rattle.entity_loading.proofs.WaitSteps.{adds_in, from_nothing, none_from}
use Rattle.entity_loading.proofs.roots.named_ids.Goals as goal

pub loop-root-init : goal.loop-root-init
loop-root-init c =
    let w = c.args.trie.now in
    let q = c.args.request.now in
    let is = c.ancestors_required.ensures in
    let same = c.into_iter-root-iterator.ensures.into_iter_gives ∙ c.roots-root-items.ensures.roots in
    let lead = rw (c.roots-root-items.ensures.roots, is) at c.roots-root-items.ensures.lead in
    record {
      naming = λ s. naming_start (IsNamed w q s) (RootNames q s c.into_iter-root-iterator.result) (Gives s w c.new-ids.result c.new-waiting.result) (λ y. rw (same, is) (let f = named_roots w q s y lead in (f.1, f.0)));
      later = none_from 0 w.nodes c.new-waiting.result c.new-waiting.ensures.empty;
      lead = rw (same, is) lead;
    }

pub name_root-requires-clause-there : goal.name_root-requires-clause-there
name_root-requires-clause-there c = let all = rw c.in-Some.ensures.steps at c.loop-root.invariant.lead in all.0.there

pub loop-root-preserved : goal.loop-root-preserved
loop-root-preserved c =
    let w = c.args.trie.now in
    let q = c.args.request.now in
    let r = c.in-Some.root.now in
    let below = c.in-Some.below in
    let steps = c.in-Some.ensures.steps in
    let all = rw steps at c.loop-root.invariant.lead in
    let mid = c.loop-root.waiting in
    let new = c.name_root.new.waiting in
    record {
      naming = λ s. naming_more (IsNamed w q s) (RootNames q s c.loop-root.root-iterator) (Names s (root_value q r) below) (RootNames q s c.next.new.self)
          (Gives s w c.new-ids.result c.new-waiting.result) (Gives s w c.loop-root.ids mid) (Gives s w c.name_root.new.ids new)
          (λ y. rw steps (root_first_names q s r below c.next.new.self y)) (c.loop-root.invariant.naming s)
          (adds_in s w below all.0.table (Names s (root_value q r) below) c.loop-root.ids c.name_root.new.ids mid new (c.in_ok-name_root.ensures.named s));
      later = subst (λ ns. WaitFrom 0 ns new) all.0.table (c.in_ok-name_root.ensures.later (subst (λ ns. WaitFrom 0 ns mid) (sym all.0.table) c.loop-root.invariant.later));
      lead = all.1;
    }

pub name_waiting-requires-clause-table : goal.name_waiting-requires-clause-table
name_waiting-requires-clause-table c = subst IsTable (sym c.nodes.ensures.nodes) c.nodes.ensures.table

pub name_waiting-requires-clause-there : goal.name_waiting-requires-clause-there
name_waiting-requires-clause-there c = subst (λ ns. WaitFrom 0 ns c.loop-root.waiting) (sym c.nodes.ensures.nodes) c.loop-root.invariant.later

pub returns : goal.returns
returns c = λ s kept y.
    let w = c.args.trie.now in
    let q = c.args.request.now in
    let ids = c.loop-root.ids in
    let waiting = c.loop-root.waiting in
    let all = naming_done (IsNamed w q s) (RootNames q s c.loop-root.root-iterator) (Gives s w c.new-ids.result c.new-waiting.result) (Gives s w ids waiting)
    (λ z n. no_root_names q s z (subst (λ l. RootNames q s l z) c.in-None.ensures.steps.0 n)) (c.loop-root.invariant.naming s) in
    let named = from_nothing s w (IsNamed w q s) (Gives s w ids waiting) c.new-ids.result c.new-waiting.result c.new-ids.ensures.empty c.new-waiting.ensures.empty all y in
    let given = subst (λ ns. Has c.name_waiting.new.ids y ↔ Gives s (whole ns) ids waiting y) c.nodes.ensures.nodes (c.in_ok-name_waiting.ensures s kept y) in
    (λ h. named.0 (given.0 h), λ n. given.1 (named.1 n))
