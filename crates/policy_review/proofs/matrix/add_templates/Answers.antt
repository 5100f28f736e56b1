use Rattle.std.proofs.Common.{fold, sym, ap, ◌∙◌}
use Rattle.std.specs.BTreeMap.{insert_entry}
use Rattle.policy_values.specs.Uid.{text_cmp}
use Rattle.policy_review.specs.Found.{with_level}
use Rattle.policy_review.proofs.matrix.add_templates.Goals as goal

pub loop-template-preserved : goal.loop-template-preserved
loop-template-preserved c =
    let schema = c.args.schema.now in
    let before = c.loop-template.levels.entries in
    let put = c.in_ok-put.ensures ∙ (λ i. insert_entry text_cmp before (c.id.ensures i) (c.in_ok-level.ensures i)) in
    ap (λ es. fold (with_level schema) es c.next.new.self) put
    ∙ ap (fold (with_level schema) before) (sym c.in-Some.ensures.steps)
    ∙ c.loop-template.invariant
