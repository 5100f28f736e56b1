use Rattle.std.proofs.Common.{sym, ◌∙◌}
use Rattle.std.proofs.lemmas.Result.{IfOk-weaker}
use Rattle.policy_values.specs.Reaches.{IsClosure}
use Rattle.policy_values.proofs.Reaches.{Reaches-back}
use Rattle.policy_values.proofs.reverse.descendants_of.Goals as goal

pub returns : goal.returns
returns g c =
    let back = c.in_ok-back.ensures in
    IfOk-weaker c.closure_of.result (λ below. IsClosure g.K.Ord.cmp c.in_ok-back.back.entries below.entries) _
    (λ below closure. record {
      keys = record { each = λ q h. closure.keys q ∙ back.keys.each q h; only = λ q h. back.keys.only q (sym (closure.keys q) ∙ h) };
      below = λ x y. (λ h. Reaches-back (λ a b. (back.turned a b).0) ((closure.reached x y).0 h), λ r. (closure.reached x y).1 (Reaches-back (λ a b. (back.turned b a).1) r));
      ordered = closure.ordered;
    })
    c.closure_of.ensures
