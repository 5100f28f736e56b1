use Rattle.std.proofs.Common.{[], ◌≡◌, ◌⊎◌, ◌||◌, Bool, true, suc, inl, inr, sym, ap, ◌∙◌, subst, ◌+◌, ◌∷◌, drop, drop-cons, add-one}
use Rattle.std.specs.List.{list_any}
use Rattle.std.proofs.lemmas.Bool.{or_cases}
use Rattle.policy_values.specs.declared.entity_uid.EntityUID.{EntityUID}
use Rattle.access_tries.specs.Edges.{Address}
use Rattle.access_tries.specs.Table.{links_at}
use Rattle.access_tries.specs.Views.{view_leads}
use Rattle.entity_loading.specs.Begun.{root_points}
use Rattle.entity_loading.specs.Leads.{RootLeads, IsEdgeLed}
use Rattle.entity_loading.specs.Places.{IsAtOrBelow}
use Rattle.entity_loading.specs.Needs.{Adds}
use Rattle.entity_loading.proofs.DemandSteps.{link_leads, number_in}
use Rattle.plain_lemmas.proofs.Lists.{is_some_within}
use Rattle.entity_loading.proofs.BeginSteps.{first_at}
use Rattle.entity_loading.proofs.FollowSteps.{following_same, following_more, or_weaker}
use Rattle.entity_loading.proofs.LedSteps.{led_root}
use Rattle.entity_loading.proofs.begin.root_places.Goals as goal

pub loop-link-init : goal.loop-link-init
loop-link-init c =
    let ns = c.args.trie.now in
    let q = c.args.request.now in
    let all : c.links_of-link-items.result.now ≡ links_at ns 0 = c.links_of-link-items.ensures ∙ ap (λ m. links_at m 0) c.nodes-nodes.ensures.nodes in
    let same = λ (b : Bool) (x : EntityUID) (a : Address). ap (list_any (λ k. root_points b (record { nodes = ns; number = k.number }) q k.edge x a)) all in
    rw c.new-start.ensures.empty (record {
      following = following_same _ _ _ _ _ same;
      leading = λ b x a h. inr (same b x a ∙ h);
    })

pub ask_edge-requires-clause-there : goal.ask_edge-requires-clause-there
ask_edge-requires-clause-there c =
    let ns = c.args.trie.now in
    let l = c.link-item.result in
    let items = c.links_of-link-items.result.now in
    let all : items ≡ links_at ns 0 = c.links_of-link-items.ensures ∙ ap (λ m. links_at m 0) c.nodes-nodes.ensures.nodes in
    let same = c.new-below.ensures ∙ (λ j. record { nodes = c.nodes-nodes.ensures.nodes j; number = l.number }) in
    subst (λ v. view_leads v [] ≡ true) (sym same) (is_some_within ns l.number (number_in ns 0 c.loop-link.link-index l c.nodes-nodes.ensures.table items all c.loop-link-test.true c.link-item.is).1)

pub loop-link-preserved : goal.loop-link-preserved
loop-link-preserved c =
    let ns = c.args.trie.now in
    let q = c.args.request.now in
    let l = c.link-item.result in
    let i = c.loop-link.link-index in
    let items = c.links_of-link-items.result.now in
    let all : items ≡ links_at ns 0 = c.links_of-link-items.ensures ∙ ap (λ m. links_at m 0) c.nodes-nodes.ensures.nodes in
    let same = c.new-below.ensures ∙ (λ j. record { nodes = c.nodes-nodes.ensures.nodes j; number = l.number }) in
    let split : drop i items ≡ l ∷ drop (i + 1) items = rw (add-one i) (drop-cons items i l c.loop-link-test.true ∙ ap (λ k. k ∷ drop (suc i) items) (sym c.link-item.is)) in
    let on = link_leads ns 0 i l c.nodes-nodes.ensures.table items all c.loop-link-test.true c.link-item.is in
    let led = led_root ns q l.number l.edge on (subst (λ v. IsEdgeLed v q l.edge) same c.in_ok-ask_edge.ensures.leads) in
    record {
      following = following_more ns _ _ _ _ _ c.loop-link.invariant.following (λ b. root_points b (record { nodes = ns; number = l.number }) q l.edge)
          (λ b x a. list_any (λ k. root_points b (record { nodes = ns; number = k.number }) q k.edge x a) (drop (i + 1) items)) c.ask_edge.new.next.keys
          (λ b x a. ap (list_any (λ k. root_points b (record { nodes = ns; number = k.number }) q k.edge x a)) split)
          (subst (λ v. Adds v.nodes (λ b. root_points b v q l.edge) c.loop-link.start.keys c.ask_edge.new.next.keys) same c.in_ok-ask_edge.ensures.asked)
          (λ p h. or_weaker (λ b. first_at ns l.number l.edge on p (b.0, subst (λ v. IsAtOrBelow v p) same b.1)) (c.in_ok-ask_edge.ensures.below p h));
      leading = λ b x a h. next_root (RootLeads ns q b x a) (root_points b (record { nodes = ns; number = l.number }) q l.edge x a) (list_any (λ k. root_points b (record { nodes = ns; number = k.number }) q k.edge x a) (drop i items)) _
          (ap (list_any (λ k. root_points b (record { nodes = ns; number = k.number }) q k.edge x a)) split) (led b x a) (c.loop-link.invariant.leading b x a h);
    }
  where
    next_root : (P : Type 0) (this all rest : Bool) → all ≡ (this || rest) → (this ≡ true → P) → P ⊎ (all ≡ true) → P ⊎ (rest ≡ true)
    next_root P this all rest split f (inl p) = inl p
    next_root P this all rest split f (inr h) = by (or_cases this rest (sym split ∙ h))
      where
        by : (this ≡ true) ⊎ (rest ≡ true) → P ⊎ (rest ≡ true)
        by (inl i) = inl (f i)
        by (inr i) = inr i

pub returns-clause-first : goal.returns-clause-first
returns-clause-first c = λ q h. elim (c.loop-link.invariant.following.below q h) [
  | inl none ↦ absurd none
  | inr first ↦ first
]
