use Rattle.std.proofs.Common.{subst}
use Rattle.std.proofs.lemmas.Result.{IfOk-weaker}
use Rattle.policy_ext.specs.DateTime.{IsDateTime}
use Rattle.policy_ext.proofs.NumberTexts.{number_is_no_datetime}
use Rattle.policy_ext.proofs.datetime.DateTimeValue.text.Goals as goal

pub returns-clause-is_not_read : goal.returns-clause-is_not_read
returns-clause-is_not_read c = IfOk-weaker c.written.result _ _ (λ s e v d. number_is_no_datetime c.args.self.now v c.written.ensures.fits (subst (λ text. IsDateTime text v) e d)) c.written.ensures.spelling
