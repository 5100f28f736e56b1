use Rattle.std.specs.Option.{option_copied}
use Rattle.schema_core.proofs.InListing.{attrs_unknown, unknown_least, lowest_all}
use Rattle.schema_core.proofs.checks.least_unknown.Goals as goal

pub returns : goal.returns
returns c =
    unknown_least c.args.listing.now c.into_iter-kind-iterator.ensures.into_iter_gives.5 c.into_iter-context-iterator.ensures.into_iter_gives.5 _
    (lowest_all attrs_unknown c.loop-context.context-iterator (option_copied c.loop-context.low) _ c.in-None-2.ensures.steps.0 c.loop-context.invariant)
