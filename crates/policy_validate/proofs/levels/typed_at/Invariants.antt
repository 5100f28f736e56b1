use Rattle.std.proofs.Common.{map}
use Rattle.std.specs.Vec.Iter.{into_iter_items}
use Rattle.schema_core.specs.RequestEnvs.{env_data_of}
use Rattle.policy_validate.proofs.AtLevel.{IsTypedSoFar}
use Rattle.policy_validate.proofs.levels.typed_at.Given as goal

abbrev pub invariant-loop-env : goal.invariant-loop-env
invariant-loop-env l = IsTypedSoFar l.schema l.level l.template l.typed.impossible l.typed.faults (map env_data_of (into_iter_items l.env-iterator))
