use Rattle.std.proofs.Common.{◌≡◌, sym, ap, ◌∙◌, subst}
use Rattle.std.specs.Prelude.{IfOk}
use Rattle.schema_core.specs.EnvData.{action_in}
use Rattle.schema_core.specs.RequestEnvs.{env_data_of}
use Rattle.level_spec.specs.Levels.{greater}
use Rattle.policy_review.specs.Found.{level_reported}
use Rattle.policy_review.proofs.Raising.{greater_zero}
use Rattle.policy_review.proofs.levels.raised_by.Goals as goal

pub returns-in-Some : goal.returns-in-Some
returns-in-Some c =
    subst (λ o. IfOk c.raised_past.result (λ l. l ≡ greater c.args.level (level_reported (action_in (env_data_of c.args.env.now)) o))) (sym c.in-Some.is ∙ c.condition_of.ensures) c.raised_past.ensures

pub returns-in-None : goal.returns-in-None
returns-in-None c =
    sym (greater_zero c.args.level) ∙ ap (λ o. greater c.args.level (level_reported (action_in (env_data_of c.args.env.now)) o)) (sym c.in-None.is ∙ c.condition_of.ensures)
