use Rattle.std.proofs.Common.{◌≡◌, suc, ◌+◌, arith, subst, map, rules}
use Rattle.std.specs.Map.Iter.{deref}
use Rattle.policy_values.specs.declared.entity_uid.EntityUID.{EntityUID}
use Rattle.level_spec.specs.Hops.{IsHop}
use Rattle.level_validate.proofs.Hopping.{next_hop, left_last, left_early, none_left}
use Rattle.level_validate.proofs.slice.reached_in.Goals as goal
use Rattle.level_validate.proofs.slice.reached_in.Goals.{else-loop-step-test, then-loop-step-test+then-is_empty}

pub loop-step-preserved : goal.loop-step-preserved
loop-step-preserved c =
    let q = c.args.request.now in
    let s = c.args.entities.now in
    let e : suc c.loop-step._step ≡ c.loop-step._step + 1 = omega arith in
    subst (λ k. IsHop q s k c.add_fresh-in-loop-step.new.reached.keys (map (deref {X = EntityUID}) c.in_ok-fresh-2.fresh.items)) e
    ((c.hops_reach.ensures q s c.iter-ascending.ensures.ascending).next c.loop-step._step _ _ _ _ c.loop-step.invariant (next_hop _ _ _ _ _ (rw c.in_ok-held_by.ensures at c.in_ok-fresh-2.ensures)))

pub returns : goal.returns
returns c =
    let q = c.args.request.now in
    let s = c.args.entities.now in
    let hops = c.hops_reach.ensures q s c.iter-ascending.ensures.ascending in
    elim c.loop-step-test.branch [
      | else-loop-step-test w ↦ left_last q s hops c.loop-step._step c.args.steps _ _ c.loop-step.invariant (omega arith)
      | then-loop-step-test+then-is_empty w ↦ left_early q s hops c.loop-step._step c.args.steps _ _ c.loop-step.invariant (omega arith) (none_left _ _ (search rules))
    ]
