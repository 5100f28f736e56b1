use Rattle.std.proofs.Common.{not, Some, None, sym, ◌∙◌, ap}
use Rattle.schema_core.proofs.InListing.{are_bad, bad_context_least, key_here, key_nowhere}
use Rattle.schema_core.proofs.checks.first_bad_context.Goals as goal

pub returns-then-not-are_held : goal.returns-then-not-are_held
returns-then-not-are_held c =
    bad_context_least c.args.listing.now c.into_iter-uid-iterator.ensures.into_iter_gives.5 (Some c.in-Some.uid.now)
    (key_here are_bad c.loop-uid.uid-iterator c.next.new.self c.args.listing.now.contexts.entries (c.in-Some.uid.now, c.in-Some.context.now) c.in-Some.ensures.steps c.loop-uid.invariant (ap not (sym c.are_held.ensures ∙ c.if-not-are_held.true)))

pub returns : goal.returns
returns c = bad_context_least c.args.listing.now c.into_iter-uid-iterator.ensures.into_iter_gives.5 None (key_nowhere are_bad c.loop-uid.uid-iterator c.args.listing.now.contexts.entries c.in-None.ensures.steps.0 c.loop-uid.invariant)
