use Rattle.std.proofs.Common.{[], ◌∷◌, ◌++◌, ap, ◌∙◌, subst, sym}
use Rattle.std.specs.List.Sorted.{IsStrictlySortedBy}
use Rattle.std.specs.Map.{keys_of}
use Rattle.policy_values.specs.Uid.{text_cmp}
use Rattle.policy_values.specs.Maps.{IsNext}
use Rattle.policy_values.proofs.MapSteps.{next-seam}
use Rattle.policy_core.proofs.EvalSteps.{so_far_more, keys_more, depth_more}
use Rattle.policy_core.proofs.eval.+evaluate.Goals as goal

pub evaluate_named-push_entry-requires : goal.evaluate_named-push_entry-requires
evaluate_named-push_entry-requires g t c =
    let done = keys_of c.loop-name.values.entries in
    let keys = c.loop-name.invariant.keys ∙ ap (λ es. done ++ keys_of es) c.in-Some.ensures.steps in
    let next = next-seam done c.in-Some.name.now (keys_of c.next.new.self) (subst (IsStrictlySortedBy text_cmp) keys c.iter-name-items.ensures.ordered) in
    subst (λ k. IsNext k done) (sym c.in_ok-name-in-Value.ensures) next

pub evaluate_named-loop-name-preserved : goal.evaluate_named-loop-name-preserved
evaluate_named-loop-name-preserved g t c =
    let done = c.loop-name.values.entries in
    let k = c.in-Some.name.now in
    let x = c.in-Some.item.now in
    let v = c.in-Value.value in
    let is = c.in-Some.ensures.steps in
    let pushed = c.in_ok-push_entry-in-Value.ensures.added ∙ ap (λ l. done ++ (l, v) ∷ []) c.in_ok-name-in-Value.ensures in
    record {
      so_far = so_far_more done _ k x v c.loop-name.name-iterator c.next.new.self is pushed _ c.args.request.now c.args.entities.now (sym c.in_ok-value.ensures ∙ c.in-Value.is) c.loop-name.invariant.so_far;
      keys = keys_more done _ k x v c.loop-name.name-iterator c.next.new.self is pushed _ c.loop-name.invariant.keys;
      depth = depth_more done _ k x v c.loop-name.name-iterator c.next.new.self is pushed _ c.loop-name.invariant.depth;
    }
