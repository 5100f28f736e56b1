use Rattle.std.proofs.Common.{◌≡◌, ◌∙◌, sym, ap, subst, true, length}
use Rattle.std.specs.Prelude.{◌↔◌}
use Rattle.std.specs.List.{AllByRecursion}
use Rattle.std.proofs.lemmas.Bool.{false≢true}
use Rattle.std.proofs.lemmas.List.{nil_from_length}
use Rattle.policy_values.specs.declared.entity_uid.EntityUID.{EntityUID}
use Rattle.entity_loading.specs.Names.{IsNamed}
use Rattle.entity_loading.specs.Joining.{lists}
use Rattle.entity_loading.specs.Unasked.{AsksForSome}
use Rattle.entity_loading.proofs.AddSteps.{id_skipped, id_taken}
use Rattle.entity_loading.proofs.AskedSteps.{asking_start, asking_taken, asking_skipped, asking_done}
use Rattle.entity_loading.proofs.UnaskedSteps.{some_more}
use Rattle.entity_loading.proofs.ancestors.ancestors_requests.Goals as goal
use Rattle.entity_loading.proofs.ancestors.ancestors_requests.Goals.{then-not-is_empty+in_ok-try_clone+in_ok-items_of+in_ok-push, else-not-is_empty}

pub loop-uid-init : goal.loop-uid-init
loop-uid-init c =
    let es : c.into_iter-uid-iterator.result ≡ c.in_ok-borrowed.borrowed.entries = c.into_iter-uid-iterator.ensures.into_iter_gives ∙ c.iter-uid-items.ensures.rest in
    rw (c.new-requests.ensures.items, es) (record {
      some = tt;
      ascending = c.iter-uid-items.ensures.ordered;
      asked = λ t kept. asking_start c.args.nodes.now c.args.request.now t c.args.asked.now.keys c.in_ok-borrowed.borrowed c.iter-uid-items.ensures.ordered c.in_ok-borrowed.ensures;
    })

pub loop-uid-preserved : goal.loop-uid-preserved
loop-uid-preserved c =
    elim c.if-not-is_empty.branch [
      | then-not-is_empty+in_ok-try_clone+in_ok-items_of+in_ok-push w ↦
          rw w.requests-is (record {
            some = subst (AllByRecursion AsksForSome) (sym w.in_ok-push.ensures.items)
                (some_more c.loop-uid.requests.items (record { entity_id = w.in_ok-try_clone.field-0; ancestors = w.in_ok-items_of.field-0 }) c.loop-uid.invariant.some
                (λ e. false≢true (sym w.if-not-is_empty.true ∙ c.is_empty.ensures.1 (ap length (sym w.in_ok-items_of.ensures ∙ e)))));
            ascending = id_taken c.loop-uid.requests.items w.push.new.self.items c.loop-uid.uid-iterator c.next.new.self (c.in-Some.uid.now, c.in-Some.borrowed.now)
                (record { entity_id = w.in_ok-try_clone.field-0; ancestors = w.in_ok-items_of.field-0 }) c.in-Some.ensures.steps w.in_ok-push.ensures.items w.in_ok-try_clone.ensures c.loop-uid.invariant.ascending;
            asked = λ t kept. asking_taken c.args.nodes.now c.args.request.now t c.args.asked.now.keys c.loop-uid.requests.items c.loop-uid.uid-iterator c.next.new.self (c.in-Some.uid.now, c.in-Some.borrowed.now) c.in_ok-ids.ids.keys c.in-Some.ensures.steps
                (subst (λ v. (y : EntityUID) → (lists c.in_ok-ids.ids.keys y ≡ true) ↔ IsNamed v c.args.request.now t y) c.trie.ensures (c.in_ok-ids.ensures t kept)) (c.loop-uid.invariant.asked t kept)
                (record { entity_id = w.in_ok-try_clone.field-0; ancestors = w.in_ok-items_of.field-0 }) w.push.new.self.items w.in_ok-push.ensures.items w.in_ok-try_clone.ensures w.in_ok-items_of.ensures;
          })
      | else-not-is_empty w ↦
          rw w.requests-is (record {
            some = c.loop-uid.invariant.some;
            ascending = id_skipped c.loop-uid.requests.items c.loop-uid.uid-iterator c.next.new.self (c.in-Some.uid.now, c.in-Some.borrowed.now) c.in-Some.ensures.steps c.loop-uid.invariant.ascending;
            asked = λ t kept. asking_skipped c.args.nodes.now c.args.request.now t c.args.asked.now.keys c.loop-uid.requests.items c.loop-uid.uid-iterator c.next.new.self (c.in-Some.uid.now, c.in-Some.borrowed.now) c.in_ok-ids.ids.keys c.in-Some.ensures.steps
                (subst (λ v. (y : EntityUID) → (lists c.in_ok-ids.ids.keys y ≡ true) ↔ IsNamed v c.args.request.now t y) c.trie.ensures (c.in_ok-ids.ensures t kept)) (c.loop-uid.invariant.asked t kept)
                (nil_from_length c.in_ok-ids.ids.keys (c.is_empty.ensures.0 w.if-not-is_empty.false));
          })
    ]

pub returns-clause-asked : goal.returns-clause-asked
returns-clause-asked c = λ t kept. asking_done c.args.nodes.now c.args.request.now t c.args.asked.now.keys c.loop-uid.requests.items c.loop-uid.uid-iterator c.in-None.ensures.steps.0 (c.loop-uid.invariant.asked t kept)
