use Rattle.std.proofs.Common.{ap, ◌∙◌}
use Rattle.policy_typecheck.specs.TypecheckAnswer.{after}
use Rattle.policy_typecheck.proofs.answer.TypecheckAnswer.sequence_all_then_typecheck.Goals as goal

pub returns : goal.returns
returns g c = (c.in_ok-parts.parts, c.f.result, c.in_ok-parts.ensures, c.f.ensures, c.after.ensures ∙ ap (λ b. after b c.f.result) c.have_all_types-ok.ensures)
