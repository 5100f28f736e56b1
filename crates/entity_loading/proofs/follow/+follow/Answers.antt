use Rattle.std.proofs.Common.{◌≡◌, sym, ap, ◌∙◌, subst, arith, ◌||◌}
use Rattle.std.proofs.lemmas.Result.{on_ok_weaker}
use Rattle.access_tries.specs.declared.edge.Edge.TheVariants.{Field}
use Rattle.access_tries.specs.Views.{LeadsNowhere}
use Rattle.reads_spec.specs.Paths.{along}
use Rattle.policy_values.specs.Value.{entity, rec, size_of_fields, fields_of}
use Rattle.policy_values.specs.ValueView.{val_of}
use Rattle.entity_loading.specs.Leads.{Leads, IsLed}
use Rattle.entity_loading.specs.Needs.{sees, points, fields_point, Adds}
use Rattle.entity_loading.proofs.FollowSteps.{following_same, following_more, following_skip, points_behind, points_nothing, placed_below, at_or_below, below_step, or_weaker}
use Rattle.entity_loading.proofs.LedSteps.{IsLeading, led_entity, led_record, led_behind, led_nowhere, leading_start, leading_more}
use Rattle.entity_loading.proofs.follow.+follow.Goals as goal

pub follow-returns-in-EntityUID-clause-below : goal.follow-returns-in-EntityUID-clause-below
follow-returns-in-EntityUID-clause-below t c = on_ok_weaker c.ask.result (λ p. placed_below c.args.trie.now _ c.args.next.now.keys c.ask.new.places.keys p c.number.ensures c.requires) c.ask.ensures

pub follow-returns-in-EntityUID-clause-leads : goal.follow-returns-in-EntityUID-clause-leads
follow-returns-in-EntityUID-clause-leads t c =
    let is : entity c.in-EntityUID.uid ≡ c.args.value.now = ap val_of (sym c.in-EntityUID.is) ∙ c.kind.ensures.content in
    on_ok_weaker c.ask.result (λ p. subst (λ u. IsLed c.args.trie.now (points u) (Leads u)) is (led_entity c.in-EntityUID.uid c.args.trie.now)) c.ask.ensures

pub follow-returns-in-Record-clause-below : goal.follow-returns-in-Record-clause-below
follow-returns-in-Record-clause-below t c = on_ok_weaker c.follow_fields.result (λ f q h. or_weaker (at_or_below c.args.trie.now q) (f q h)) c.follow_fields.ensures.below

pub follow-returns-in-Record-clause-leads : goal.follow-returns-in-Record-clause-leads
follow-returns-in-Record-clause-leads t c =
    let is : rec (fields_of c.in-Record.fields.entries) ≡ c.args.value.now = ap val_of (sym c.in-Record.is) ∙ c.kind.ensures.content in
    on_ok_weaker c.follow_fields.result (λ f. subst (λ u. IsLed c.args.trie.now (points u) (Leads u)) is (led_record (fields_of c.in-Record.fields.entries) c.args.trie.now f)) c.follow_fields.ensures.leads

pub follow_fields-loop-key-init : goal.follow_fields-loop-key-init
follow_fields-loop-key-init t c =
    let v = c.args.trie.now in
    let same = c.into_iter-key-iterator.ensures.into_iter_gives ∙ c.iter-key-items.ensures.rest in
    record {
      following = following_same _ _ _ _ _ (λ b x a. ap (λ es. fields_point (fields_of es) (sees b v) x a) same);
      leading = subst (λ l. IsLeading v c.args.fields.now.entries l) (sym same) (leading_start v c.args.fields.now.entries c.iter-key-items.ensures.ordered);
      within = omega (arith, ap (λ es. size_of_fields (fields_of es)) same);
    }

pub follow_fields-loop-key-preserved-in-Continue-1 : goal.follow_fields-loop-key-preserved-in-Continue-1
follow_fields-loop-key-preserved-in-Continue-1 t c =
    let v = c.args.trie.now in
    let key = c.in-Some.key.now in
    let value = c.in-Some.value.now in
    let below = c.in-Some-field.below in
    let leads = c.in-Some-field.ensures in
    let steps = c.in-Some.ensures.steps in
    record {
      following = following_more v.nodes _ _ _ _ _ c.loop-key.invariant.following (λ b. points value (sees b below)) (λ b. fields_point (fields_of c.next.new.self) (sees b v)) c.follow.new.next.keys
          (λ b x a. ap (λ es. fields_point (fields_of es) (sees b v) x a) steps ∙ ap (λ p. p || fields_point (fields_of c.next.new.self) (sees b v) x a) (sym (points_behind (Field key) v below leads value b x a)))
          (subst (λ ns. Adds ns (λ b. points value (sees b below)) c.loop-key.next.keys c.follow.new.next.keys) leads.table c.in_ok-follow.ensures.asked)
          (λ q h. or_weaker (below_step (along key) v below q leads) (c.in_ok-follow.ensures.below q h));
      leading = leading_more v c.args.fields.now.entries c.loop-key.key-iterator c.loop-key.invariant.leading key value c.next.new.self steps (led_behind (Field key) v below leads value c.in_ok-follow.ensures.leads);
      within = omega (arith, c.loop-key.invariant.within, ap (λ es. size_of_fields (fields_of es)) steps);
    }

pub follow_fields-loop-key-preserved : goal.follow_fields-loop-key-preserved
follow_fields-loop-key-preserved t c =
    let v = c.args.trie.now in
    let key = c.in-Some.key.now in
    let value = c.in-Some.value.now in
    let steps = c.in-Some.ensures.steps in
    let nowhere : LeadsNowhere (Field key) v = c.in_default.ensures in
    record {
      following = following_skip v.nodes _ _ _ _ _ c.loop-key.invariant.following (λ b. fields_point (fields_of c.next.new.self) (sees b v))
          (λ b x a. ap (λ es. fields_point (fields_of es) (sees b v) x a) steps ∙ ap (λ p. p || fields_point (fields_of c.next.new.self) (sees b v) x a) (points_nothing (Field key) v nowhere value b x a));
      leading = leading_more v c.args.fields.now.entries c.loop-key.key-iterator c.loop-key.invariant.leading key value c.next.new.self steps (led_nowhere (Field key) v nowhere value);
      within = omega (arith, c.loop-key.invariant.within, ap (λ es. size_of_fields (fields_of es)) steps);
    }
