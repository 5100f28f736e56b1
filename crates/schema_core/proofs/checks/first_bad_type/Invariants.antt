use Rattle.std.proofs.Common.{◌≡◌}
use Rattle.schema_core.proofs.Entries.{first_key}
use Rattle.schema_core.proofs.InListing.{is_bad}
use Rattle.schema_core.proofs.checks.first_bad_type.Given as goal

abbrev pub invariant-loop-name : goal.invariant-loop-name
invariant-loop-name l = first_key is_bad l.name-iterator ≡ first_key is_bad l.listing.kinds.entries
