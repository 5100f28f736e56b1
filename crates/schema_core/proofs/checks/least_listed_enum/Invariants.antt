use Rattle.std.proofs.Common.{◌≡◌, None}
use Rattle.std.specs.Option.{option_copied}
use Rattle.schema_core.specs.Lowest.{lowest_names}
use Rattle.schema_core.proofs.Entries.{lowest_at}
use Rattle.schema_core.proofs.InListing.{is_no_enum, set_enums}
use Rattle.schema_core.proofs.checks.least_listed_enum.Given as goal

abbrev pub invariant-loop-set : goal.invariant-loop-set
invariant-loop-set l = lowest_at (set_enums l.listing) (option_copied l.low) l.set-iterator ≡ lowest_at (set_enums l.listing) None l.listing.types.entries

abbrev pub invariant-loop-name : goal.invariant-loop-name
invariant-loop-name l = lowest_at (set_enums l.listing) (lowest_names (is_no_enum l.listing) (option_copied l.low) l.name-iterator) l.set-iterator ≡ lowest_at (set_enums l.listing) None l.listing.types.entries
