use Rattle.std.proofs.Common.{◌∙◌}
use Rattle.std.proofs.lemmas.Bool.{OnTrue_at}
use Rattle.std.specs.BTreeMap.{insert_entry}
use Rattle.policy_values.specs.Uid.{text_cmp}
use Rattle.policy_review.proofs.Placing.{own_level}
use Rattle.policy_review.proofs.Raising.{zero_greater}
use Rattle.policy_review.proofs.matrix.add_static.Goals as goal

pub returns-clause-rows : goal.returns-clause-rows
returns-clause-rows c = OnTrue_at c.if-not-passes.false c.in_ok-passes.ensures.rows

pub returns-clause-levels : goal.returns-clause-levels
returns-clause-levels c =
    let level = OnTrue_at c.if-not-passes.false c.in_ok-passes.ensures.level ∙ zero_greater _ ∙ own_level c.statics_are_unlinked.ensures c.args.schema.now c.args.policy.now c.condition-condition.ensures.policy in
    c.in_ok-put.ensures ∙ (λ i. insert_entry text_cmp c.args.levels.now.entries (c.id.ensures i) (level i))
