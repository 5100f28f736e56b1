use Rattle.std.proofs.Common.{Some, None, sym, ◌∙◌}
use Rattle.schema_core.proofs.InListing.{is_empty, empty_enum_least, key_here, key_nowhere}
use Rattle.schema_core.proofs.checks.first_empty_enum.Goals as goal

pub returns-then-is_empty_enum : goal.returns-then-is_empty_enum
returns-then-is_empty_enum c =
    empty_enum_least c.args.listing.now c.into_iter-name-iterator.ensures.into_iter_gives.5 (Some c.in-Some.name.now)
    (key_here is_empty c.loop-name.name-iterator c.next.new.self c.args.listing.now.kinds.entries (c.in-Some.name.now, c.in-Some.kind.now) c.in-Some.ensures.steps c.loop-name.invariant (sym c.is_empty_enum.ensures ∙ c.if-is_empty_enum.true))

pub returns : goal.returns
returns c = empty_enum_least c.args.listing.now c.into_iter-name-iterator.ensures.into_iter_gives.5 None (key_nowhere is_empty c.loop-name.name-iterator c.args.listing.now.kinds.entries c.in-None.ensures.steps.0 c.loop-name.invariant)
