use Rattle.std.proofs.Common.{◌≡◌, [], ◌∷◌, ◌++◌, Some, map, ap, ◌∙◌, subst}
use Rattle.std.specs.Prelude.{IfOk, flat_map}
use Rattle.schema_core.specs.EnvData.{action_in}
use Rattle.schema_core.specs.RequestEnvs.{env_data_of}
use Rattle.level_spec.specs.Levels.{greater, least, dereferences}
use Rattle.policy_validate.specs.Errors.{condition_in, dereferences_in}
use Rattle.plain_lemmas.proofs.Lists.{append_empty}
use Rattle.policy_review.proofs.levels.raised_to.Goals as goal

pub returns : goal.returns
returns c =
    let pushed = c.in_ok-push.ensures.items ∙ ap (λ cs. cs ++ (c.args.env.now, c.args.condition) ∷ []) c.new-conditions.ensures.items in
    subst (λ os. IfOk c.raised.result (λ l. l ≡ greater (Some c.args.level) (least os)))
    (ap (λ cs. flat_map dereferences_in (map condition_in cs)) pushed ∙ append_empty (dereferences (action_in (env_data_of c.args.env.now)) c.args.condition)) c.raised.ensures
