use Rattle.policy_values.proofs.Least.{IsRest}
use Rattle.policy_values.specs.Uid.{text_cmp}
use Rattle.schema_core.specs.Outline.{IsDeclaredActionType}
use Rattle.schema_core.specs.Listing.{listed_outline}
use Rattle.schema_core.proofs.checks.first_action_type.Given as goal

abbrev pub invariant-loop-name : goal.invariant-loop-name
invariant-loop-name l = IsRest text_cmp (IsDeclaredActionType (listed_outline l.listing)) l.name-iterator
