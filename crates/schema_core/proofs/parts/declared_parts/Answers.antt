use Rattle.std.proofs.Common.{IsTrue, subst, refl, sym}
use Rattle.policy_values.specs.Reaches.{Reaches}
use Rattle.policy_values.specs.Least.{IsLeast}
use Rattle.policy_values.proofs.Least.{IsLeast-same}
use Rattle.policy_values.specs.Uid.{text_cmp, uid_cmp, copied_uid}
use Rattle.schema_core.specs.Schema.{made_of}
use Rattle.schema_core.specs.Outline.{Outline, outline_of, HasSoundNames, HasSoundTypes, HasDescendants, IsListingEnum}
use Rattle.schema_core.specs.Faults.{Nowhere, IsTypeFault}
use Rattle.schema_core.specs.Declarations.{IsInCycle, IsRefused}
use Rattle.schema_core.specs.Listing.{listed_outline}
use Rattle.schema_core.proofs.Rules.{refused_by, refused_declarations, refused_declared_types, own_least, no_own}
use Rattle.schema_core.proofs.Members.{members_names, members_closed, cycle_least, enum_member, same_fault, same_types}
use Rattle.schema_core.proofs.parts.declared_parts.Goals as goal

pub declared-requires-clause-actions : goal.declared-requires-clause-actions
declared-requires-clause-actions c = rw (c.in_default.is, c.deref.ensures.value, c.in_ok-ids.ensures) at c.in_ok-uid.ensures

pub returns-in_err-check_names : goal.returns-in_err-check_names
returns-in_err-check_names c =
    let once = rw (c.in_default.is, c.deref.ensures.value, c.in_ok-ids.ensures) at c.in_ok-uid.ensures in
    let e = c.in_ok-listing.ensures.outline in
    let fault = c.in_err-check_names.field-0.0 in
    refused_by c.from_residual-in_err-check_names.result fault _ (IsRefused c.args.declarations) c.from_residual-in_err-check_names.ensures.1 (refused_declarations c.args.declarations (listed_outline c.in_ok-listing.listing) fault e once c.in_err-check_names.ensures)

pub returns-in-Some-first_own : goal.returns-in-Some-first_own
returns-in-Some-first_own c =
    let once = rw (c.in_default.is, c.deref.ensures.value, c.in_ok-ids.ensures) at c.in_ok-uid.ensures in
    let e = c.in_ok-listing.ensures.outline in
    let u = c.in-Some-first_own.uid.now in
    let same = copied_uid u c.in_ok-clone.field-0 c.in_ok-clone.ensures.cases in
    let members = c.in_ok-members.members in
    let own = own_least members (listed_outline members) refl u c.in-Some-first_own.ensures in
    let cycle = cycle_least (listed_outline c.in_ok-listing.listing) (listed_outline members) c.in_ok-members.ensures.descendants u own in
    ((once, subst HasSoundNames e c.in_ok-check_names.ensures), rw same (subst (λ (p : Outline). IsLeast uid_cmp (λ v. Reaches (λ a b. IsTrue (p.action_lists a b)) v v) u) e cycle))

pub returns-in-Some-least_listed_enum : goal.returns-in-Some-least_listed_enum
returns-in-Some-least_listed_enum c =
    let once = rw (c.in_default.is, c.deref.ensures.value, c.in_ok-ids.ensures) at c.in_ok-uid.ensures in
    let e = c.in_ok-listing.ensures.outline in
    let members = c.in_ok-members.members in
    let d = c.in_ok-members.ensures.descendants in
    let none = no_own members (listed_outline members) refl c.in_default-first_own.ensures in
    let x = c.in-Some-least_listed_enum.name.now in
    let least = IsLeast-same (enum_member (listed_outline c.in_ok-listing.listing) (listed_outline members) d) c.in-Some-least_listed_enum.ensures in (
      (once, subst HasSoundNames e c.in_ok-check_names.ensures),
      λ u cycle. none u ((d.actions u u).1 (subst (λ (p : Outline). Reaches (λ a b. IsTrue (p.action_lists a b)) u u) (sym e) cycle)),
      rw c.in_ok-clone-2.ensures.cases (subst (λ (p : Outline). IsLeast text_cmp (IsListingEnum p) x) e least),
    )

pub returns-in_err-check_types : goal.returns-in_err-check_types
returns-in_err-check_types c =
    let once = rw (c.in_default.is, c.deref.ensures.value, c.in_ok-ids.ensures) at c.in_ok-uid.ensures in
    let e = c.in_ok-listing.ensures.outline in
    let declared = listed_outline c.in_ok-listing.listing in
    let members = c.in_ok-members.members in
    let d = c.in_ok-members.ensures.descendants in
    let none = no_own members (listed_outline members) refl c.in_default-first_own.ensures in
    let no_cycle : Nowhere (IsInCycle c.args.declarations) = λ u cycle. none u ((d.actions u u).1 (subst (λ (p : Outline). Reaches (λ a b. IsTrue (p.action_lists a b)) u u) (sym e) cycle)) in
    let no_enum : Nowhere (IsListingEnum declared) = λ x h. c.in_default-least_listed_enum.ensures x ((enum_member declared (listed_outline members) d x).1 h) in
    let fault = c.in_err-check_types.field-0.0 in
    refused_by c.from_residual-in_err-check_types.result fault _ (IsRefused c.args.declarations) c.from_residual-in_err-check_types.ensures.1
    (refused_declared_types c.args.declarations fault ((once, subst HasSoundNames e c.in_ok-check_names.ensures), no_cycle, subst (λ p. Nowhere (IsListingEnum p)) e no_enum)
    (subst (λ p. IsTypeFault p fault) e (same_fault declared (listed_outline members) d fault c.in_err-check_types.ensures)))

pub arranged-requires-clause-names : goal.arranged-requires-clause-names
arranged-requires-clause-names c = members_names c.in_ok-listing.listing (listed_outline c.in_ok-members.members) c.in_ok-check_names.ensures c.in_ok-members.ensures.descendants

pub arranged-requires-clause-closed : goal.arranged-requires-clause-closed
arranged-requires-clause-closed c =
    let members = c.in_ok-members.members in
    members_closed (listed_outline c.in_ok-listing.listing) (listed_outline members) c.in_ok-members.ensures.descendants (no_own members (listed_outline members) refl c.in_default-first_own.ensures) c.in_default-least_listed_enum.ensures

pub returns : goal.returns
returns c =
    let once = rw (c.in_default.is, c.deref.ensures.value, c.in_ok-ids.ensures) at c.in_ok-uid.ensures in
    let e = c.in_ok-listing.ensures.outline in
    let declared = listed_outline c.in_ok-listing.listing in
    let members = c.in_ok-members.members in
    let d = c.in_ok-members.ensures.descendants in
    let none = no_own members (listed_outline members) refl c.in_default-first_own.ensures in
    let no_enum : Nowhere (IsListingEnum declared) = λ x h. c.in_default-least_listed_enum.ensures x ((enum_member declared (listed_outline members) d x).1 h) in
    record {
      once = once;
      names = subst HasSoundNames e c.in_ok-check_names.ensures;
      no_cycle = λ u cycle. none u ((d.actions u u).1 (subst (λ (p : Outline). Reaches (λ a b. IsTrue (p.action_lists a b)) u u) (sym e) cycle));
      no_enum = subst (λ p. Nowhere (IsListingEnum p)) e no_enum;
      types = subst HasSoundTypes e (same_types declared (listed_outline members) d c.in_ok-check_types.ensures);
      schema = c.in_ok-arranged.ensures.0;
      descendants = subst (λ (p : Outline). HasDescendants p (outline_of (made_of c.in_ok-arranged.field-0.0.items c.in_ok-arranged.field-0.1.items))) e (subst (λ (p : Outline). HasDescendants declared p) (sym c.in_ok-arranged.ensures.1) d);
    }
