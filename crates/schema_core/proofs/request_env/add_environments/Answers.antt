use Rattle.schema_core.specs.Environments.{environments_at}
use Rattle.schema_core.specs.EnvData.{unlinked}
use Rattle.schema_core.proofs.Lists.{moved_list}
use Rattle.schema_core.proofs.request_env.add_environments.Goals as goal

pub loop-principal-preserved : goal.loop-principal-preserved
loop-principal-preserved c = moved_list (unlinked c.args.action.now) (environments_at c.args.action.now) _ _ _ _ _ c.in-Some.principal.now c.loop-principal.invariant c.in-Some.ensures.steps c.in_ok-add_resources.ensures
