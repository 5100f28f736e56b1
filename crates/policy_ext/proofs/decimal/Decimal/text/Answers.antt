use Rattle.std.proofs.Common.{sym, subst, ap, ◌∙◌, w64, FitsSigned}
use Rattle.std.proofs.lemmas.Int.{to_z-of_z}
use Rattle.std.proofs.lemmas.Result.{IfOk-weaker}
use Rattle.policy_ext.specs.Decimal.{IsDecimal, decimal_text}
use Rattle.policy_ext.proofs.DecimalText.{decimal_written}
use Rattle.policy_ext.proofs.decimal.Decimal.text.Goals as goal

pub returns-clause-is_read : goal.returns-clause-is_read
returns-clause-is_read c =
    let now = to_z-of_z w64 c.self.inside.ten_thousandths c.self.invariant ∙ c.self.view_is in
    let written = decimal_written c.args.self.now (subst (FitsSigned w64) c.self.view_is c.self.invariant) in
    IfOk-weaker c.written.result _ _ (λ s e. subst (λ text. IsDecimal text c.args.self.now) (sym (e ∙ ap decimal_text now)) written) c.written.ensures
