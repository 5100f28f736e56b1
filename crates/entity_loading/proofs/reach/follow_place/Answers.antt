use Rattle.std.proofs.Common.{inl, inr, subst}
use Rattle.std.proofs.lemmas.Result.{on_ok_weaker}
use Rattle.entity_loading.specs.Answered.{answer_points}
use Rattle.entity_loading.specs.Leads.{EntityLeads, IsLed}
use Rattle.entity_loading.specs.Places.{IsPlaceBelow, node_of}
use Rattle.entity_loading.specs.Needs.{Adds, sees, entity_points}
use Rattle.entity_loading.specs.Reached.{IsAnswerLed}
use Rattle.entity_loading.proofs.SliceReachSteps.{adds_none}
use Rattle.entity_loading.proofs.reach.follow_place.Goals as goal

pub returns-in-Some-clause-asked : goal.returns-in-Some-clause-asked
returns-in-Some-clause-asked c =
    let ns = c.args.nodes.now in
    let p = c.args.place.now in
    let e = c.in-Some.entity.now in
    let old = c.args.next.now.keys in
    let new = c.follow_entity.new.next.keys in
    on_ok_weaker c.follow_entity.result
    (λ t. subst (λ o. Adds ns (answer_points o (node_of ns p)) old new) c.in-Some.ensures (subst (λ v. Adds v.nodes (λ b. entity_points e (sees b v)) old new) c.new.ensures t))
    c.follow_entity.ensures.asked

pub returns-in-Some-clause-below : goal.returns-in-Some-clause-below
returns-in-Some-clause-below c =
    on_ok_weaker c.follow_entity.result
    (λ f q h. elim (f q h) [
      | inl before ↦ inl before
      | inr below ↦ inr (subst (λ v. IsPlaceBelow v q) c.new.ensures below)
    ])
    c.follow_entity.ensures.below

pub returns-in-Some-clause-leads : goal.returns-in-Some-clause-leads
returns-in-Some-clause-leads c =
    let e = c.in-Some.entity.now in
    on_ok_weaker c.follow_entity.result
    (λ l. subst (IsAnswerLed (node_of c.args.nodes.now c.args.place.now)) c.in-Some.ensures (subst (λ v. IsLed v (entity_points e) (EntityLeads e)) c.new.ensures l))
    c.follow_entity.ensures.leads

pub returns-in-None-clause-asked : goal.returns-in-None-clause-asked
returns-in-None-clause-asked c = adds_none c.args.nodes.now c.args.place.now _ c.in-None.ensures c.args.next.now.keys

pub returns-in-None-clause-leads : goal.returns-in-None-clause-leads
returns-in-None-clause-leads c = subst (IsAnswerLed (node_of c.args.nodes.now c.args.place.now)) c.in-None.ensures tt
