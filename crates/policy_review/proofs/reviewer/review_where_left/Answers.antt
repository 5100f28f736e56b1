use Rattle.std.proofs.Common.{◌++◌, map, fold, sym, ap, ◌∙◌}
use Rattle.std.proofs.lemmas.Bool.{OnTrue_at}
use Rattle.std.specs.List.{flat_map, list_all}
use Rattle.policy_set.specs.PolicySet.{statics}
use Rattle.plain_lemmas.proofs.Booleans.{not_both}
use Rattle.policy_review.specs.Matrix.{rows_of}
use Rattle.policy_review.specs.Found.{level_at, passes_everywhere, with_level}
use Rattle.policy_review.proofs.Placing.{levels_are}
use Rattle.policy_review.proofs.reviewer.review_where_left.Goals as goal

pub returns-then-not-passes : goal.returns-then-not-passes
returns-then-not-passes c = λ accepted.
    not_both (list_all (passes_everywhere c.args.schema.now) c.args.policies.now.policies) (c.accepted_exactly.ensures.1 accepted).1 (sym c.in_ok-passes.ensures.passes ∙ c.if-not-passes.true)

pub returns : goal.returns
returns c =
    let schema = c.args.schema.now in
    let s = c.args.policies.now in
    let reported = c.in_ok-passes.ensures in
    let accepted = c.accepted_exactly.ensures.0 (c.requires.rules, sym reported.passes ∙ c.if-not-passes.false) in
    let templates = c.in_ok-add_templates.ensures ∙ ap (λ es. fold (with_level schema) es s.templates) c.new-levels.ensures.empty in
    let levels = OnTrue_at c.if-not-passes.false reported.levels ∙ ap (λ es. fold (with_level schema) es (statics s)) templates in
    record {
      accepted = accepted;
      matrix = OnTrue_at c.if-not-passes.false reported.rows ∙ ap (λ rows. rows ++ flat_map (rows_of schema) s.policies) c.new-matrix.ensures.items;
      levels = c.in_ok-levels.ensures ∙ ap (map level_at) levels ∙ levels_are schema c.check_is_exact.ensures s accepted.as_written;
    }
