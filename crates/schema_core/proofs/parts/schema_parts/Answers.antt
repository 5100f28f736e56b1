use Rattle.std.proofs.Common.{subst, refl, ◌∙◌}
use Rattle.policy_values.specs.Uid.{copied_uid}
use Rattle.schema_core.specs.Schema.{SchemaData}
use Rattle.schema_core.specs.Outline.{outline_of, HasSoundNames, IsClosed}
use Rattle.schema_core.specs.Faults.{IsRefusedData}
use Rattle.schema_core.specs.Listing.{listed_outline}
use Rattle.schema_core.proofs.Rules.{refused_by, refused_data, refused_types, own_least, no_own, enum_least, no_enum, open_type_least, no_open_type, open_action_least, no_open_action, closed_outline}
use Rattle.schema_core.proofs.parts.schema_parts.Goals as goal

pub listed-requires-clause-actions : goal.listed-requires-clause-actions
listed-requires-clause-actions c = rw (c.in_default.is, c.deref-2.ensures.value, c.in_ok-ids.ensures, c.deref.ensures.value) at c.in_ok-uid.ensures

pub returns-in_err-check_names : goal.returns-in_err-check_names
returns-in_err-check_names c =
    let once = rw (c.in_default.is, c.deref-2.ensures.value, c.in_ok-ids.ensures, c.deref.ensures.value) at c.in_ok-uid.ensures in
    let given : SchemaData = record { entity_types = c.args.entity_types.items; action_ids = c.args.action_ids.items } in
    let e = c.in_ok-listing.ensures.outline in
    let fault = c.in_err-check_names.field-0.0 in
    refused_by c.from_residual-in_err-check_names.result fault _ (IsRefusedData given) c.from_residual-in_err-check_names.ensures.1 (refused_data given (listed_outline c.in_ok-listing.listing) fault e once c.in_err-check_names.ensures)

pub returns-in-Some-first_own : goal.returns-in-Some-first_own
returns-in-Some-first_own c =
    let once = rw (c.in_default.is, c.deref-2.ensures.value, c.in_ok-ids.ensures, c.deref.ensures.value) at c.in_ok-uid.ensures in
    let given : SchemaData = record { entity_types = c.args.entity_types.items; action_ids = c.args.action_ids.items } in
    let e = c.in_ok-listing.ensures.outline in
    let same = copied_uid c.in-Some-first_own.uid.now c.in_ok-clone.field-0 c.in_ok-clone.ensures.cases in
    ((once, subst HasSoundNames e c.in_ok-check_names.ensures), rw same (own_least c.in_ok-listing.listing (outline_of given) e c.in-Some-first_own.uid.now c.in-Some-first_own.ensures))

pub returns-in-Some-least_listed_enum : goal.returns-in-Some-least_listed_enum
returns-in-Some-least_listed_enum c =
    let once = rw (c.in_default.is, c.deref-2.ensures.value, c.in_ok-ids.ensures, c.deref.ensures.value) at c.in_ok-uid.ensures in
    let given : SchemaData = record { entity_types = c.args.entity_types.items; action_ids = c.args.action_ids.items } in
    let e = c.in_ok-listing.ensures.outline in (
      (once, subst HasSoundNames e c.in_ok-check_names.ensures),
      no_own c.in_ok-listing.listing (outline_of given) e c.in_default-first_own.ensures,
      rw c.in_ok-clone-2.ensures.cases (enum_least (listed_outline c.in_ok-listing.listing) (outline_of given) e c.in-Some-least_listed_enum.name.now c.in-Some-least_listed_enum.ensures),
    )

pub returns-in-Some-first_not_closed : goal.returns-in-Some-first_not_closed
returns-in-Some-first_not_closed c =
    let once = rw (c.in_default.is, c.deref-2.ensures.value, c.in_ok-ids.ensures, c.deref.ensures.value) at c.in_ok-uid.ensures in
    let given : SchemaData = record { entity_types = c.args.entity_types.items; action_ids = c.args.action_ids.items } in
    let e = c.in_ok-listing.ensures.outline in (
      (once, subst HasSoundNames e c.in_ok-check_names.ensures),
      no_own c.in_ok-listing.listing (outline_of given) e c.in_default-first_own.ensures,
      no_enum (listed_outline c.in_ok-listing.listing) (outline_of given) e c.in_default-least_listed_enum.ensures,
      rw c.in_ok-clone-3.ensures.cases (open_type_least c.in_ok-listing.listing (outline_of given) e c.in-Some-first_not_closed.name.now c.in-Some-first_not_closed.ensures),
    )

pub returns-in-Some-first_not_closed-2 : goal.returns-in-Some-first_not_closed-2
returns-in-Some-first_not_closed-2 c =
    let once = rw (c.in_default.is, c.deref-2.ensures.value, c.in_ok-ids.ensures, c.deref.ensures.value) at c.in_ok-uid.ensures in
    let given : SchemaData = record { entity_types = c.args.entity_types.items; action_ids = c.args.action_ids.items } in
    let e = c.in_ok-listing.ensures.outline in
    let same = copied_uid c.in-Some-first_not_closed-2.uid.now c.in_ok-clone-4.field-0 c.in_ok-clone-4.ensures.cases in (
      (once, subst HasSoundNames e c.in_ok-check_names.ensures),
      no_own c.in_ok-listing.listing (outline_of given) e c.in_default-first_own.ensures,
      no_enum (listed_outline c.in_ok-listing.listing) (outline_of given) e c.in_default-least_listed_enum.ensures,
      no_open_type c.in_ok-listing.listing (outline_of given) e c.in_default-first_not_closed.ensures,
      rw same (open_action_least c.in_ok-listing.listing (outline_of given) e c.in-Some-first_not_closed-2.uid.now c.in-Some-first_not_closed-2.ensures),
    )

pub returns-in_err-check_types : goal.returns-in_err-check_types
returns-in_err-check_types c =
    let once = rw (c.in_default.is, c.deref-2.ensures.value, c.in_ok-ids.ensures, c.deref.ensures.value) at c.in_ok-uid.ensures in
    let given : SchemaData = record { entity_types = c.args.entity_types.items; action_ids = c.args.action_ids.items } in
    let l = c.in_ok-listing.listing in
    let e = c.in_ok-listing.ensures.outline in
    let closed = closed_outline (listed_outline l) (no_own l (listed_outline l) refl c.in_default-first_own.ensures) c.in_default-least_listed_enum.ensures (no_open_type l (listed_outline l) refl c.in_default-first_not_closed.ensures) (no_open_action l (listed_outline l) refl c.in_default-first_not_closed-2.ensures) in
    let fault = c.in_err-check_types.field-0.0 in
    refused_by c.from_residual-in_err-check_types.result fault _ (IsRefusedData given) c.from_residual-in_err-check_types.ensures.1
    (refused_types given (listed_outline l) fault e (once, subst HasSoundNames e c.in_ok-check_names.ensures) (subst IsClosed e closed) c.in_err-check_types.ensures)

pub arranged-requires-clause-closed : goal.arranged-requires-clause-closed
arranged-requires-clause-closed c =
    let l = c.in_ok-listing.listing in
    closed_outline (listed_outline l) (no_own l (listed_outline l) refl c.in_default-first_own.ensures) c.in_default-least_listed_enum.ensures (no_open_type l (listed_outline l) refl c.in_default-first_not_closed.ensures) (no_open_action l (listed_outline l) refl c.in_default-first_not_closed-2.ensures)

pub returns : goal.returns
returns c = (c.in_ok-arranged.ensures.0, c.in_ok-arranged.ensures.1 ∙ c.in_ok-listing.ensures.outline)
