use Rattle.std.proofs.Common.{◌≡◌, None}
use Rattle.std.specs.Option.{option_copied}
use Rattle.schema_core.proofs.Entries.{lowest_at}
use Rattle.schema_core.proofs.InListing.{kind_undeclared, attrs_undeclared}
use Rattle.schema_core.proofs.checks.undeclared_inside.Given as goal

abbrev pub invariant-loop-kind : goal.invariant-loop-kind
invariant-loop-kind l = lowest_at (kind_undeclared l.listing) (option_copied l.low) l.kind-iterator ≡ lowest_at (kind_undeclared l.listing) None l.listing.kinds.entries

abbrev pub invariant-loop-context : goal.invariant-loop-context
invariant-loop-context l = lowest_at (attrs_undeclared l.listing) (option_copied l.low) l.context-iterator ≡ lowest_at (attrs_undeclared l.listing) (lowest_at (kind_undeclared l.listing) None l.listing.kinds.entries) l.listing.contexts.entries
