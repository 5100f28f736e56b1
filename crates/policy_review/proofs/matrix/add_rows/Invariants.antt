use Rattle.std.proofs.Common.{map}
use Rattle.std.specs.Vec.Iter.{into_iter_items}
use Rattle.schema_core.specs.RequestEnvs.{env_data_of}
use Rattle.policy_review.proofs.Steps.{IsGoingOn}
use Rattle.policy_review.proofs.matrix.add_rows.Given as goal

abbrev pub invariant-loop-env : goal.invariant-loop-env
invariant-loop-env l = IsGoingOn l.schema l.policy l.fn.matrix.items l.fn.level l.matrix.items l.level (map env_data_of (into_iter_items l.env-iterator))
