use Rattle.std.specs.Option.{option_copied}
use Rattle.schema_core.proofs.InListing.{set_enums, listed_enum_least, lowest_all}
use Rattle.schema_core.proofs.checks.least_listed_enum.Goals as goal

pub returns : goal.returns
returns c = listed_enum_least c.args.listing.now c.into_iter-set-iterator.ensures.into_iter_gives.5 _ (lowest_all (set_enums c.args.listing.now) c.loop-set.set-iterator (option_copied c.loop-set.low) _ c.in-None.ensures.steps.0 c.loop-set.invariant)
