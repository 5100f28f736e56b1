use Rattle.std.proofs.Common.{sym, ◌∙◌}
use Rattle.std.proofs.lemmas.Bool.{OnTrue_at}
use Rattle.policy_review.proofs.Steps.{gone_over, stopped_at, each_passed, each_row, each_level}
use Rattle.policy_review.proofs.matrix.add_policies.Goals as goal

pub loop-policy-preserved : goal.loop-policy-preserved
loop-policy-preserved c =
    let reported = c.in_ok-passes.ensures in
    gone_over c.args.schema.now c.args.policies.now c.args.matrix.now.items c.args.levels.now.entries c.loop-policy.matrix.items c.loop-policy.levels.entries c.loop-policy.policy-iterator c.next.new.self c.in-Some.policy.now
    c.in-Some.ensures.steps c.loop-policy.invariant (sym reported.passes ∙ c.if-not-passes.false)
    c.add_policy.new.matrix.items (OnTrue_at c.if-not-passes.false reported.rows) c.add_policy.new.levels.entries (OnTrue_at c.if-not-passes.false reported.levels)

pub returns-then-not-passes-clause-passes : goal.returns-then-not-passes-clause-passes
returns-then-not-passes-clause-passes c =
    stopped_at c.args.schema.now c.args.policies.now c.args.matrix.now.items c.args.levels.now.entries c.loop-policy.matrix.items c.loop-policy.levels.entries c.loop-policy.policy-iterator c.next.new.self c.in-Some.policy.now
    c.in-Some.ensures.steps c.loop-policy.invariant (sym c.in_ok-passes.ensures.passes ∙ c.if-not-passes.true)

pub returns-clause-passes : goal.returns-clause-passes
returns-clause-passes c =
    each_passed c.args.schema.now c.args.policies.now c.args.matrix.now.items c.args.levels.now.entries c.loop-policy.matrix.items c.loop-policy.levels.entries c.loop-policy.policy-iterator c.in-None.ensures.steps.0 c.loop-policy.invariant

pub returns-clause-rows : goal.returns-clause-rows
returns-clause-rows c =
    each_row c.args.schema.now c.args.policies.now c.args.matrix.now.items c.args.levels.now.entries c.loop-policy.matrix.items c.loop-policy.levels.entries c.loop-policy.policy-iterator c.in-None.ensures.steps.0 c.loop-policy.invariant

pub returns-clause-levels : goal.returns-clause-levels
returns-clause-levels c =
    each_level c.args.schema.now c.args.policies.now c.args.matrix.now.items c.args.levels.now.entries c.loop-policy.matrix.items c.loop-policy.levels.entries c.loop-policy.policy-iterator c.in-None.ensures.steps.0 c.loop-policy.invariant
