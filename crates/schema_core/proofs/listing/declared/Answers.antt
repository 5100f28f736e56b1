use Rattle.std.proofs.Common.{[], refl, ap, arith}
use Rattle.std.proofs.lemmas.List.{nil_from_length}
use Rattle.policy_values.specs.Uid.{exact_uid}
use Rattle.schema_core.specs.Entries.{ActionEntry, Declarations}
use Rattle.schema_core.specs.Declarations.{declared_outline}
use Rattle.schema_core.specs.Listing.{ListsTypes}
use Rattle.schema_core.proofs.Mapped.{distinct_from_once}
use Rattle.schema_core.proofs.Actions.{actions_first, actions_more, actions_outline, actions_listing, other_actions}
use Rattle.schema_core.proofs.listing.declared.Goals as goal

pub declared_types-requires : goal.declared_types-requires
declared_types-requires c = rw (ap (λ (d : Declarations). d.entity_types) c.declarations.view_is) c.requires.types

pub loop-action-init : goal.loop-action-init
loop-action-init c =
    rw (c.into_iter-action-iterator.ensures.into_iter_gives.0, ap (λ (d : Declarations). d.actions) c.declarations.view_is)
    (actions_first (λ (a : ActionEntry). a.id) (λ a. a.principals) (λ a. a.resources) (λ a. a.member_of) (λ a. a.context) c.args.declarations.actions c.in_ok-listing.listing _ (distinct_from_once exact_uid _ c.requires.actions) c.in_ok-listing.ensures)

pub loop-action-preserved : goal.loop-action-preserved
loop-action-preserved c =
    let i = c.action.inside in
    let x : ActionEntry = record { id = i.id; principals = i.principals.items; resources = i.resources.items; member_of = i.member_of.items; context = i.context } in
    actions_more (λ (a : ActionEntry). a.id) (λ a. a.principals) (λ a. a.resources) (λ a. a.member_of) (λ a. a.context) c.args.declarations.actions c.in_ok-listing.listing _ _ c.loop-action.listing c.add_action.new.listing x c.in_ok-principals.principals c.in_ok-resources.resources c.in_ok-member_of.member_of i.context c.loop-action.invariant
    (rw c.action.view_is c.in-Some.ensures.steps.0) c.in_ok-add_action.ensures refl c.in_ok-principals.ensures.has c.in_ok-resources.ensures.has c.in_ok-member_of.ensures.has
    c.in_ok-principals.ensures.ordered c.in_ok-resources.ensures.ordered c.in_ok-member_of.ensures.ordered

pub returns-clause-outline : goal.returns-clause-outline
returns-clause-outline c =
    let d = c.args.declarations in
    let same = ap (λ (d : Declarations). d.entity_types) c.declarations.view_is in
    let types : ListsTypes (declared_outline (record { entity_types = d.entity_types; actions = [] })) c.in_ok-listing.listing = rw (← same) c.in_ok-listing.ensures in
    actions_outline (λ (a : ActionEntry). a.id) (λ a. a.principals) (λ a. a.resources) (λ a. a.member_of) (λ a. a.context) d.actions c.in_ok-listing.listing _ c.loop-action.listing c.loop-action.invariant (nil_from_length _ (omega (arith, c.in-None.ensures.steps.0))) (declared_outline d)
    (other_actions c.in_ok-listing.listing _ (declared_outline d) types (λ x. refl) (λ x y. refl) (λ x. refl)) (λ u. refl) (λ u v. refl) (λ u y. refl) (λ u y. refl) (λ u. refl)

pub returns-clause-listing : goal.returns-clause-listing
returns-clause-listing c =
    actions_listing (λ (a : ActionEntry). a.id) (λ a. a.principals) (λ a. a.resources) (λ a. a.member_of) (λ a. a.context) c.args.declarations.actions c.in_ok-listing.listing _ c.loop-action.listing c.loop-action.invariant (nil_from_length _ (omega (arith, c.in-None.ensures.steps.0))) _ c.in_ok-listing.ensures
