use Rattle.std.proofs.Common.{subst, ap, ◌∙◌}
use Rattle.std.specs.Prelude.{codes}
use Rattle.std.proofs.lemmas.Result.{IfOk-weaker}
use Rattle.policy_ext.specs.Decimal.{IsDecimal}
use Rattle.serde_json.specs.Data.{string}
use Rattle.json_response.specs.ValueJson.{alone}
use Rattle.json_response.proofs.ReadBack.{decimal_back}
use Rattle.json_response.proofs.values.write_decimal.Goals as goal

pub returns : goal.returns
returns c =
    let text = c.in_ok-text.ensures in
    IfOk-weaker c.write_alone.result _ _ (λ v e. record {
      written = e ∙ ap (alone (codes "decimal")) (c.from.ensures ∙ ap string text.spelling);
      read_back = decimal_back c.args.d.now (subst (λ s. IsDecimal s c.args.d.now) text.spelling text.is_read);
    }) c.write_alone.ensures
