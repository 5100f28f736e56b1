use Rattle.std.proofs.Common.{◌≡◌}
use Rattle.std.specs.Vec.Iter.{into_iter_items}
use Rattle.policy_typecheck.specs.Added.{all_added, same_error}
use Rattle.policy_typecheck.proofs.added.add_errors.Given as goal

-- what is left is still to be added
abbrev pub invariant-loop-error : goal.invariant-loop-error
invariant-loop-error l = all_added same_error l.found.keys (into_iter_items l.error-iterator) ≡ all_added same_error l.initial.found.keys l.fn.more.items
