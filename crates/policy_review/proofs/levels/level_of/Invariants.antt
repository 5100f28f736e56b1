use Rattle.std.proofs.Common.{◌≡◌, map}
use Rattle.std.specs.Vec.Iter.{into_iter_items}
use Rattle.schema_core.specs.RequestEnvs.{env_data_of}
use Rattle.policy_set.specs.Condition.{condition_of}
use Rattle.level_spec.specs.Levels.{greater}
use Rattle.policy_review.specs.Levels.{greatest}
use Rattle.policy_review.specs.Found.{level_found_in, level_found}
use Rattle.policy_review.proofs.levels.level_of.Given as goal

-- the level so far, and those in the environments that are left
abbrev pub invariant-loop-env : goal.invariant-loop-env
invariant-loop-env l =
    greater l.level (greatest (map (level_found_in l.schema (condition_of l.template)) (map env_data_of (into_iter_items l.env-iterator)))) ≡ level_found l.schema l.template
