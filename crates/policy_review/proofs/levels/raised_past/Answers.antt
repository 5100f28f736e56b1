use Rattle.std.proofs.Common.{◌≡◌, sym, ap, subst}
use Rattle.std.specs.Prelude.{IfOk}
use Rattle.schema_core.specs.EnvData.{action_in}
use Rattle.schema_core.specs.RequestEnvs.{env_data_of}
use Rattle.level_spec.specs.Levels.{greater, least_level}
use Rattle.policy_review.proofs.levels.raised_past.Goals as goal

pub returns-in-Some : goal.returns-in-Some
returns-in-Some c =
    let least = least_level (action_in (env_data_of c.args.env.now)) c.args.condition in
    subst (λ o. IfOk c.raised_to.result (λ l. l ≡ greater o least)) (sym c.in-Some.is) c.raised_to.ensures

pub returns-in-None : goal.returns-in-None
returns-in-None c = sym (ap (λ o. greater o (least_level (action_in (env_data_of c.args.env.now)) c.args.condition)) c.in-None.is)
