use Rattle.std.proofs.Common.{◌≡◌, ◌∙◌, ap}
use Rattle.std.specs.Ordering.{is_eq}
use Rattle.std.proofs.lemmas.List.{take_all}
use Rattle.policy_values.specs.Reaches.{has}
use Rattle.policy_values.specs.Uid.{uid_cmp, uid_cmp_total, exact_uid, copied_uid}
use Rattle.schema_core.specs.Schema.{SchemaData}
use Rattle.schema_core.proofs.SameKeys.{has_answer}
use Rattle.schema_core.proofs.Queries.{ancestors_more, ancestors_all, added, not_added}
use Rattle.schema_core.proofs.validator_schema.ValidatorSchema.action_ancestors.Goals as goal
use Rattle.schema_core.proofs.validator_schema.ValidatorSchema.action_ancestors.Goals.{then-has_descendant+in_ok-clone+in_ok-insert, else-has_descendant}

pub loop-action-preserved : goal.loop-action-preserved
loop-action-preserved c =
    let xs = c.args.self.now.action_ids in
    let x = c.action-item.result in
    let whole : c.deref-action-items.result.now ≡ xs = c.deref-action-items.ensures.value ∙ ap (λ (s : SchemaData). s.action_ids) c.self.view_is in
    let lt = rw whole at c.loop-action-test.true in
    let item = rw whole at c.action-item.is in
    let answer : has uid_cmp x.descendants c.args.uid.now ≡ c.has_descendant.result = has_answer uid_cmp_total exact_uid c.has_descendant.result x.descendants c.args.uid.now c.has_descendant.ensures in
    elim c.if-has_descendant.branch [
      | then-has_descendant+in_ok-clone+in_ok-insert w ↦
          let same = copied_uid w.name.result.now w.in_ok-clone.field-0 w.in_ok-clone.ensures.cases ∙ w.name.ensures in
          let there = answer ∙ w.if-has_descendant.true in
          rw w.ancestors-is (ancestors_more c.args.uid.now xs c.loop-action.action-index x c.loop-action.ancestors.keys w.insert.new.self.keys lt item c.loop-action.invariant w.in_ok-insert.ensures.ordered
          (λ q. added (has uid_cmp w.insert.new.self.keys q) (has uid_cmp c.loop-action.ancestors.keys q) (is_eq (uid_cmp x.name q)) (has uid_cmp x.descendants c.args.uid.now) there (rw same at (w.in_ok-insert.ensures.updates.0 q))))
      | else-has_descendant w ↦
          let absent = answer ∙ w.if-has_descendant.false in
          rw w.ancestors-is (ancestors_more c.args.uid.now xs c.loop-action.action-index x c.loop-action.ancestors.keys c.loop-action.ancestors.keys lt item c.loop-action.invariant c.loop-action.invariant.ordered (λ q. not_added (has uid_cmp c.loop-action.ancestors.keys q) (is_eq (uid_cmp x.name q)) (has uid_cmp x.descendants c.args.uid.now) absent))
    ]

pub returns-clause-actions : goal.returns-clause-actions
returns-clause-actions c =
    let xs = c.args.self.now.action_ids in
    let whole : c.deref-action-items.result.now ≡ xs = c.deref-action-items.ensures.value ∙ ap (λ (s : SchemaData). s.action_ids) c.self.view_is in
    ancestors_all c.args.self.now c.args.uid.now c.loop-action.ancestors.keys (rw (ap (λ (s : SchemaData). s.action_ids) c.self.view_is) at c.self.invariant.actions_ascend)
    (rw (take_all c.loop-action.action-index xs (rw whole at c.loop-action-test.false)) at c.loop-action.invariant)
