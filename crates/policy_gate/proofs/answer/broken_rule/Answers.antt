use Rattle.std.proofs.Common.{◌≡◌, subst}
use Rattle.std.specs.Prelude.{IfOk}
use Rattle.std.specs.Option.{option_map}
use Rattle.conformance.specs.Written.{request_text}
use Rattle.policy_gate.specs.Answer.{request_fault}
use Rattle.policy_gate.proofs.answer.broken_rule.Goals as goal

pub returns : goal.returns
unfolding request_fault
returns c =
    subst (λ f. IfOk c.broken_with.result (λ o. o ≡ option_map request_text f))
    (c.all_functions_are_known.ensures c.in_ok-extensions.extensions c.in_ok-extensions.ensures.signatures c.args.document.now.schema c.args.document.now.request)
    c.broken_with.ensures
