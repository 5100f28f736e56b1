use Rattle.std.proofs.Common.{◌≡◌, ◌++◌}
use Rattle.std.specs.Vec.Iter.{into_iter_items}
use Rattle.policy_typecheck.specs.Missing.{unmarked}
use Rattle.policy_typecheck.proofs.added.unmarked.Given as goal

-- what is left is still to be taken
abbrev pub invariant-loop-error : goal.invariant-loop-error
invariant-loop-error l = l.more.items ++ unmarked l.error-iterator (into_iter_items l.marks) ≡ unmarked l.fn.found.keys l.fn.known.items
