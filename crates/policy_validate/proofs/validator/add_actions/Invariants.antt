use Rattle.std.proofs.Common.{◌≡◌, ◌++◌, map}
use Rattle.std.specs.Vec.Iter.{into_iter_items}
use Rattle.findings.specs.declared.error.ValidationError.TheVariants.{UnrecognizedActionId}
use Rattle.policy_validate.proofs.validator.add_actions.Given as goal

-- the findings that are left
abbrev pub invariant-loop-finding : goal.invariant-loop-finding
invariant-loop-finding l = l.errors.items ++ map UnrecognizedActionId (into_iter_items l.finding-iterator) ≡ l.fn.errors.items ++ map UnrecognizedActionId l.fn.found.items
