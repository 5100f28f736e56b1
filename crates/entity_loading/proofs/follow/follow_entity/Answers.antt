use Rattle.std.proofs.Common.{sym, ap, ◌∙◌, subst, ◌||◌}
use Rattle.std.specs.List.{list_any}
use Rattle.std.proofs.lemmas.Result.{on_ok_weaker}
use Rattle.access_tries.specs.declared.edge.Edge.TheVariants.{AnyTag}
use Rattle.reads_spec.specs.Paths.{any_tag}
use Rattle.reads_spec.specs.Restrict.{values_in}
use Rattle.policy_values.specs.Value.{fields_of}
use Rattle.entity_loading.specs.Leads.{FieldsLead, SomeLeads, IsLed}
use Rattle.entity_loading.specs.Needs.{sees, points, fields_point, entity_points, Adds}
use Rattle.entity_loading.proofs.FollowSteps.{adds_also, adds_same, any_behind, any_nothing, below_step, or_then}
use Rattle.plain_lemmas.proofs.Booleans.{or_false}
use Rattle.entity_loading.proofs.LedSteps.{some_point, led_with_tags, led_without_tags}
use Rattle.entity_loading.proofs.follow.follow_entity.Goals as goal

pub returns-in-Some-clause-asked : goal.returns-in-Some-clause-asked
returns-in-Some-clause-asked c =
    let v = c.args.trie.now in
    let e = c.args.entity.now in
    let below = c.in-Some.below in
    let leads = c.in-Some.ensures in
    let mid = c.follow_fields.new.next.keys in
    let new = c.follow_each.new.next.keys in
    let first : Adds v.nodes (λ b. fields_point e.attrs (sees b v)) c.args.next.now.keys mid = subst (λ fs. Adds v.nodes (λ b. fields_point fs (sees b v)) c.args.next.now.keys mid) c.attrs.ensures c.in_ok-follow_fields.ensures.asked in
    on_ok_weaker c.follow_each.result
    (λ t. adds_same v.nodes _ (λ b. entity_points e (sees b v)) c.args.next.now.keys new
    (λ b x a. ap (λ p. fields_point e.attrs (sees b v) x a || p) (ap (λ fs. list_any (λ u. points u (sees b below) x a) (values_in fs)) c.tags-in-Some.ensures ∙ any_behind AnyTag v below leads (values_in e.tags) b x a))
    (adds_also v.nodes (λ b. fields_point e.attrs (sees b v)) (λ b x a. list_any (λ u. points u (sees b below) x a) (values_in (fields_of c.tags-in-Some.result.now.entries))) c.args.next.now.keys mid new first
    (subst (λ ns. Adds ns (λ b x a. list_any (λ u. points u (sees b below) x a) (values_in (fields_of c.tags-in-Some.result.now.entries))) mid new) leads.table t)))
    c.follow_each.ensures.asked

pub returns-in-Some-clause-below : goal.returns-in-Some-clause-below
returns-in-Some-clause-below c = on_ok_weaker c.follow_each.result (λ f q h. or_then (c.in_ok-follow_fields.ensures.below q) (below_step any_tag c.args.trie.now c.in-Some.below q c.in-Some.ensures) (f q h)) c.follow_each.ensures.below

pub returns-in-Some-clause-leads : goal.returns-in-Some-clause-leads
returns-in-Some-clause-leads c =
    let v = c.args.trie.now in
    let e = c.args.entity.now in
    on_ok_weaker c.follow_each.result
    (λ t. led_with_tags e v c.in-Some.below c.in-Some.ensures
    (subst (λ fs. IsLed v (fields_point fs) (FieldsLead fs)) c.attrs.ensures c.in_ok-follow_fields.ensures.leads)
    (subst (λ fs. IsLed c.in-Some.below (some_point (values_in fs)) (SomeLeads (values_in fs))) c.tags-in-Some.ensures t))
    c.follow_each.ensures.leads

pub returns-in-None-clause-asked : goal.returns-in-None-clause-asked
returns-in-None-clause-asked c =
    let v = c.args.trie.now in
    let e = c.args.entity.now in
    adds_same v.nodes (λ b. fields_point e.attrs (sees b v)) (λ b. entity_points e (sees b v)) c.args.next.now.keys c.follow_fields.new.next.keys
    (λ b x a. sym (or_false (fields_point e.attrs (sees b v) x a)) ∙ ap (λ p. fields_point e.attrs (sees b v) x a || p) (sym (any_nothing AnyTag v c.in-None.ensures (values_in e.tags) b x a)))
    (subst (λ fs. Adds v.nodes (λ b. fields_point fs (sees b v)) c.args.next.now.keys c.follow_fields.new.next.keys) c.attrs.ensures c.in_ok-follow_fields.ensures.asked)

pub returns-in-None-clause-leads : goal.returns-in-None-clause-leads
returns-in-None-clause-leads c =
    led_without_tags c.args.entity.now c.args.trie.now c.in-None.ensures
    (subst (λ fs. IsLed c.args.trie.now (fields_point fs) (FieldsLead fs)) c.attrs.ensures c.in_ok-follow_fields.ensures.leads)
