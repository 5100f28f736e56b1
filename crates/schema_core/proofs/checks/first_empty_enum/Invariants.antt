use Rattle.std.proofs.Common.{◌≡◌}
use Rattle.schema_core.proofs.Entries.{first_key}
use Rattle.schema_core.proofs.InListing.{is_empty}
use Rattle.schema_core.proofs.checks.first_empty_enum.Given as goal

abbrev pub invariant-loop-name : goal.invariant-loop-name
invariant-loop-name l = first_key is_empty l.name-iterator ≡ first_key is_empty l.listing.kinds.entries
