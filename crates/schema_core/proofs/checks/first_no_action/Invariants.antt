use Rattle.policy_values.proofs.Least.{IsRest}
use Rattle.policy_values.specs.Uid.{uid_cmp}
use Rattle.schema_core.specs.Outline.{IsNoAction}
use Rattle.schema_core.specs.Listing.{listed_outline}
use Rattle.schema_core.proofs.checks.first_no_action.Given as goal

abbrev pub invariant-loop-uid : goal.invariant-loop-uid
invariant-loop-uid l = IsRest uid_cmp (IsNoAction (listed_outline l.listing)) l.uid-iterator
