use Rattle.std.proofs.Common.{◌≡◌}
use Rattle.schema_core.proofs.Entries.{first_key}
use Rattle.schema_core.proofs.InListing.{are_bad}
use Rattle.schema_core.proofs.checks.first_bad_context.Given as goal

abbrev pub invariant-loop-uid : goal.invariant-loop-uid
invariant-loop-uid l = first_key are_bad l.uid-iterator ≡ first_key are_bad l.listing.contexts.entries
