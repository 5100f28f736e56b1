use Rattle.std.proofs.Common.{◌+◌, ◌≤◌}
use Rattle.policy_validate.proofs.validator.count_environments.Given as goal

abbrev pub invariant-loop-env : goal.invariant-loop-env
invariant-loop-env g l = l.steps ≤ l.fn.steps + l._env
