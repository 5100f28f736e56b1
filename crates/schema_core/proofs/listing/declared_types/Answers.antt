use Rattle.std.proofs.Common.{[], refl, arith}
use Rattle.std.proofs.lemmas.List.{nil_from_length}
use Rattle.std.proofs.lemmas.Map.Lookups.{exact_bytes}
use Rattle.schema_core.specs.KindView.{kind_of}
use Rattle.schema_core.specs.Entries.{TypeEntry, Declarations}
use Rattle.schema_core.specs.Declarations.{declared_outline}
use Rattle.schema_core.proofs.Mapped.{distinct_from_once}
use Rattle.schema_core.proofs.Actions.{types_first, types_more, types_listed}
use Rattle.schema_core.proofs.listing.declared_types.Goals as goal

pub loop-entity_type-init : goal.loop-entity_type-init
loop-entity_type-init c =
    let h = c.empty-listing.ensures in
    rw c.into_iter-entity_type-iterator.ensures.into_iter_gives.0
    (types_first (λ (t : TypeEntry). t.name) (λ t. t.member_of) (λ t. t.kind) c.args.entity_types.items c.empty-listing.result (distinct_from_once exact_bytes _ c.requires) h.types h.kinds h.actions h.principals h.resources h.contexts)

pub loop-entity_type-preserved : goal.loop-entity_type-preserved
loop-entity_type-preserved c =
    let i = c.entity_type.inside in
    let x : TypeEntry = record { name = i.name; member_of = i.member_of.items; kind = kind_of i.kind } in
    types_more (λ (t : TypeEntry). t.name) (λ t. t.member_of) (λ t. t.kind) c.args.entity_types.items _ _ c.loop-entity_type.listing c.add_type.new.listing x i.kind c.in_ok-member_of.member_of c.loop-entity_type.invariant
    (rw c.entity_type.view_is c.in-Some.ensures.steps.0) c.in_ok-add_type.ensures refl c.in_ok-member_of.ensures.has c.in_ok-member_of.ensures.ordered

pub returns : goal.returns
returns c =
    let given : Declarations = record { entity_types = c.args.entity_types.items; actions = [] } in
    types_listed (λ (t : TypeEntry). t.name) (λ t. t.member_of) (λ t. t.kind) c.args.entity_types.items _ c.loop-entity_type.listing c.loop-entity_type.invariant (nil_from_length _ (omega (arith, c.in-None.ensures.steps.0))) (declared_outline given) (λ x. refl) (λ x y. refl) (λ x. refl)
