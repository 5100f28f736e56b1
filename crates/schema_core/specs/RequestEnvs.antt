-- Request environments as plain data.
use Rattle.std.specs.Option.{option_copied}
use Rattle.schema_core.specs.Environments.{Environment, environment}
use Rattle.schema_core.specs.EnvData.{EnvData, declared_action, undeclared_action}
use Rattle.schema_core.specs.declared.declared_env.DeclaredEnv.{DeclaredEnv}
use Rattle.schema_core.specs.declared.request_env.RequestEnv.{RequestEnv}
use Rattle.schema_core.specs.declared.request_env.RequestEnv.TheVariants.{DeclaredAction, UndeclaredAction}

abbrev pub environment_of : DeclaredEnv → Environment
environment_of e = record { principal = e.principal.now; action = e.action.now; resource = e.resource.now }

abbrev pub env_data_of : RequestEnv → EnvData
env_data_of (DeclaredAction p a r c at_principal at_resource) = declared_action record {
  environment = environment p.now a.now r.now;
  context = c.now;
  principal_slot = option_copied at_principal;
  resource_slot = option_copied at_resource;
}
env_data_of UndeclaredAction = undeclared_action
