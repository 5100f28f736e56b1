use Rattle.std.proofs.Common.{arith, ap, length}
use Rattle.std.proofs.lemmas.List.{length-map}
use Rattle.schema_core.specs.RequestEnvs.{env_data_of}
use Rattle.policy_validate.proofs.validator.count_environments.Goals as goal

pub returns : goal.returns
returns g c = omega (arith, ap length c.in_ok-envs.ensures, length-map c.in_ok-envs.envs.items env_data_of)
