use Rattle.std.proofs.Common.{not, Some, None, sym, ◌∙◌, ap}
use Rattle.schema_core.proofs.InListing.{is_bad, bad_type_least, key_here, key_nowhere}
use Rattle.schema_core.proofs.checks.first_bad_type.Goals as goal

pub returns-then-not-is_held_kind : goal.returns-then-not-is_held_kind
returns-then-not-is_held_kind c =
    bad_type_least c.args.listing.now c.into_iter-name-iterator.ensures.into_iter_gives.5 (Some c.in-Some.name.now)
    (key_here is_bad c.loop-name.name-iterator c.next.new.self c.args.listing.now.kinds.entries (c.in-Some.name.now, c.in-Some.kind.now) c.in-Some.ensures.steps c.loop-name.invariant (ap not (sym c.is_held_kind.ensures ∙ c.if-not-is_held_kind.true)))

pub returns : goal.returns
returns c = bad_type_least c.args.listing.now c.into_iter-name-iterator.ensures.into_iter_gives.5 None (key_nowhere is_bad c.loop-name.name-iterator c.args.listing.now.kinds.entries c.in-None.ensures.steps.0 c.loop-name.invariant)
