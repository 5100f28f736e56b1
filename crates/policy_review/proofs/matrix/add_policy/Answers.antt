use Rattle.std.proofs.Common.{◌≡◌, refl, sym, ◌∙◌, subst}
use Rattle.std.specs.Prelude.{IfOk, if◌then◌else◌}
use Rattle.std.specs.Bool.{OnTrue}
use Rattle.policy_set.specs.Condition.{written_of}
use Rattle.policy_review.specs.Found.{with_level}
use Rattle.policy_review.proofs.Steps.{anyway, whatever}
use Rattle.policy_review.proofs.matrix.add_policy.Goals as goal

pub returns-then-is_static-clause-levels : goal.returns-then-is_static-clause-levels
returns-then-is_static-clause-levels c =
    let old = c.args.levels.now.entries in
    let put = with_level c.args.schema.now old (written_of c.args.policy.now) in
    subst (λ s. IfOk c.add_static.result (λ b. OnTrue b (c.add_static.new.levels.entries ≡ (if s then put else old)))) (sym (sym c.is_static.ensures ∙ c.if-is_static.true)) c.add_static.ensures.levels

pub returns-else-is_static-clause-levels : goal.returns-else-is_static-clause-levels
returns-else-is_static-clause-levels c =
    let old = c.args.levels.now.entries in
    let put = with_level c.args.schema.now old (written_of c.args.policy.now) in
    subst (λ s. IfOk c.add_rows.result (λ b. OnTrue b (old ≡ (if s then put else old)))) (sym (sym c.is_static.ensures ∙ c.if-is_static.false)) (whatever _ (anyway refl) c.add_rows.result)
