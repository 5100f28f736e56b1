use Rattle.std.proofs.Common.{subst, ap, ◌∙◌}
use Rattle.std.specs.Prelude.{codes}
use Rattle.std.proofs.lemmas.Result.{IfOk-weaker}
use Rattle.policy_ext.specs.IpAddr.{IsRange}
use Rattle.serde_json.specs.Data.{string}
use Rattle.json_response.specs.ValueJson.{alone}
use Rattle.json_response.proofs.ReadBack.{range_back}
use Rattle.json_response.proofs.values.write_range.Goals as goal

pub returns : goal.returns
returns c =
    let text = c.in_ok-text.ensures in
    IfOk-weaker c.write_alone.result _ _ (λ v e. record {
      written = e ∙ ap (alone (codes "ip")) (c.from.ensures ∙ ap string text.spelling);
      read_back = range_back c.args.range.now (subst (λ s. IsRange s c.args.range.now) text.spelling text.is_read);
    }) c.write_alone.ensures
