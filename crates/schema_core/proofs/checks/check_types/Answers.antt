use Rattle.schema_core.specs.Listing.{listed_outline}
use Rattle.schema_core.proofs.Rules.{sound_types}
use Rattle.schema_core.proofs.checks.check_types.Goals as goal

pub returns : goal.returns
returns c = sound_types (listed_outline c.args.listing.now) c.in_default.ensures c.in_default-first_bad_context.ensures c.in_default-least_unknown.ensures
