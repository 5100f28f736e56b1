use Rattle.std.proofs.Common.{rules, ◌≡◌, ◌<◌, ◌∙◌, ap, subst, [], length}
use Rattle.access_tries.specs.declared.edge.Edge.TheVariants.{Field}
use Rattle.reads_spec.specs.Restrict.{cut}
use Rattle.entity_loader.specs.Asked.{some_along}
use Rattle.entity_loader.proofs.CutSteps.{IsCutting, cut_skip, cut_more, cut_done, chosen_there, not_chosen, cut_below}
use Rattle.plain_lemmas.proofs.Lists.{empty_of_length}
use Rattle.entity_loader.proofs.cut.+cutting.Goals as goal
use Rattle.entity_loader.proofs.cut.+cutting.Goals.{cut_fields-then-not-is_empty+in_ok-value+in_ok-try_clone+in_ok-push_entry, cut_fields-else-not-is_empty}

pub cut_fields-loop-key-preserved : goal.cut_fields-loop-key-preserved
cut_fields-loop-key-preserved t c =
    let ns = c.args.nodes.now in
    let is = c.args.numbers.now in
    let key = c.in-Some.key.now in
    let value = c.in-Some.value.now in
    let js = c.in_ok-below.below.items in
    let b = c.in_ok-below.ensures in
    elim c.if-not-is_empty.branch [
      | cut_fields-then-not-is_empty+in_ok-value+in_ok-try_clone+in_ok-push_entry w ↦
          let some : 0 < length js = search rules in
          rw (ap (λ m. m.entries) w.kept-is ∙ w.in_ok-push_entry.ensures.added, w.in_ok-try_clone.ensures)
          (cut_more (some_along ns is) c.args.fields.now.entries c.loop-key.key-iterator c.loop-key.kept.entries key value c.next.new.self c.in-Some.ensures.steps c.loop-key.invariant
          (chosen_there (Field key) ns is js b some) w.in_ok-value.value (w.in_ok-value.ensures ∙ ap (λ ks. cut value (some_along ns ks)) w.deref.ensures.value ∙ cut_below (Field key) ns is js b value))
      | cut_fields-else-not-is_empty w ↦
          let none : length js ≡ 0 = search rules in
          rw (ap (λ m. m.entries) w.kept-is)
          (cut_skip (some_along ns is) c.args.fields.now.entries c.loop-key.key-iterator c.loop-key.kept.entries key value c.next.new.self c.in-Some.ensures.steps c.loop-key.invariant (not_chosen (Field key) ns is js b (empty_of_length js none) []))
    ]

pub cut_fields-returns : goal.cut_fields-returns
cut_fields-returns t c =
    let k = some_along c.args.nodes.now c.args.numbers.now in
    cut_done k c.args.fields.now.entries c.loop-key.kept.entries (subst (λ l. IsCutting k c.args.fields.now.entries l c.loop-key.kept.entries) c.in-None.ensures.steps.0 c.loop-key.invariant)
