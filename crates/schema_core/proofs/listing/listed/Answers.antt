use Rattle.std.proofs.Common.{refl, arith}
use Rattle.std.proofs.lemmas.List.{nil_from_length}
use Rattle.policy_values.specs.Uid.{exact_uid}
use Rattle.schema_core.specs.Schema.{ActionData, SchemaData}
use Rattle.schema_core.specs.Outline.{outline_of}
use Rattle.schema_core.proofs.Mapped.{distinct_from_once}
use Rattle.schema_core.proofs.Actions.{actions_first, actions_more, actions_outline, actions_listing, other_actions}
use Rattle.schema_core.proofs.listing.listed.Goals as goal

pub loop-action-init : goal.loop-action-init
loop-action-init c =
    rw c.into_iter-action-iterator.ensures.into_iter_gives.0
    (actions_first (λ (a : ActionData). a.name) (λ a. a.principals) (λ a. a.resources) (λ a. a.descendants) (λ a. a.context) c.args.action_ids.items c.in_ok-listing.listing _ (distinct_from_once exact_uid _ c.requires.actions) c.in_ok-listing.ensures)

pub loop-action-preserved : goal.loop-action-preserved
loop-action-preserved c =
    let i = c.action.inside in
    let x : ActionData = record { name = i.name; principals = i.principals.keys; resources = i.resources.keys; descendants = i.descendants.keys; context = i.context } in
    actions_more (λ (a : ActionData). a.name) (λ a. a.principals) (λ a. a.resources) (λ a. a.descendants) (λ a. a.context) c.args.action_ids.items c.in_ok-listing.listing _ _ c.loop-action.listing c.add_action.new.listing x i.principals i.resources i.descendants i.context c.loop-action.invariant
    (rw c.action.view_is c.in-Some.ensures.steps.0) c.in_ok-add_action.ensures refl (λ y. refl) (λ y. refl) (λ v. refl) c.action.invariant.0 c.action.invariant.1 c.action.invariant.2

pub returns-clause-outline : goal.returns-clause-outline
returns-clause-outline c =
    let given : SchemaData = record { entity_types = c.args.entity_types.items; action_ids = c.args.action_ids.items } in
    actions_outline (λ (a : ActionData). a.name) (λ a. a.principals) (λ a. a.resources) (λ a. a.descendants) (λ a. a.context) c.args.action_ids.items c.in_ok-listing.listing _ c.loop-action.listing c.loop-action.invariant (nil_from_length _ (omega (arith, c.in-None.ensures.steps.0))) (outline_of given)
    (other_actions c.in_ok-listing.listing _ (outline_of given) c.in_ok-listing.ensures (λ x. refl) (λ x y. refl) (λ x. refl)) (λ u. refl) (λ u v. refl) (λ u y. refl) (λ u y. refl) (λ u. refl)

pub returns-clause-listing : goal.returns-clause-listing
returns-clause-listing c =
    actions_listing (λ (a : ActionData). a.name) (λ a. a.principals) (λ a. a.resources) (λ a. a.descendants) (λ a. a.context) c.args.action_ids.items c.in_ok-listing.listing _ c.loop-action.listing c.loop-action.invariant (nil_from_length _ (omega (arith, c.in-None.ensures.steps.0))) _ c.in_ok-listing.ensures
