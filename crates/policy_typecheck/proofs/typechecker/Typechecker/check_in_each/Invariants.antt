use Rattle.std.proofs.Common.{◌≡◌, ◌++◌, map}
use Rattle.std.specs.Vec.Iter.{into_iter_items}
use Rattle.std.specs.List.{AllByRecursion}
use Rattle.schema_core.specs.RequestEnvs.{env_data_of}
use Rattle.typecheck_walk.specs.Answer.{SaysIn}
use Rattle.policy_typecheck.proofs.typechecker.Typechecker.check_in_each.Given as goal

-- the checks so far, and the environments that are left
abbrev pub invariant-loop-env : goal.invariant-loop-env
invariant-loop-env l = record {
  environments : map (λ c. env_data_of c.0) l.checks.items ++ map env_data_of (into_iter_items l.env-iterator) ≡ map env_data_of l.fn.envs.items;
  checks : AllByRecursion (SaysIn l.self l.id l.condition) l.checks.items;
}
