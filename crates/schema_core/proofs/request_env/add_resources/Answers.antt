use Rattle.std.proofs.lemmas.List.{map_push}
use Rattle.schema_core.specs.Environments.{environment}
use Rattle.schema_core.specs.EnvData.{unlinked}
use Rattle.schema_core.specs.RequestEnvs.{env_data_of}
use Rattle.schema_core.proofs.Lists.{moved}
use Rattle.schema_core.proofs.request_env.add_resources.Goals as goal

pub loop-resource-preserved : goal.loop-resource-preserved
loop-resource-preserved c =
    moved (unlinked c.args.action.now) (environment c.args.principal.now c.args.action.now.name) _ _ _ _ _ c.in-Some.resource.now c.loop-resource.invariant c.in-Some.ensures.steps
    (rw (c.in_ok-push.ensures.items, c.name.ensures, c.context.ensures) (map_push env_data_of c.loop-resource.envs.items _))
