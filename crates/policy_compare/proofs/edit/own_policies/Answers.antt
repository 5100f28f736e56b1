use Rattle.std.proofs.Common.{◌≡◌, false, true, map, sym, ap, ◌∙◌, subst}
use Rattle.std.proofs.lemmas.List.{map_push}
use Rattle.std.specs.Map.Iter.{deref}
use Rattle.policy_compare.proofs.Owned.{IsGathering, passed, kept, ended}
use Rattle.policy_compare.proofs.edit.own_policies.Goals as goal

pub loop-policy-preserved : goal.loop-policy-preserved
loop-policy-preserved c =
    let others = c.args.others.now in
    let all = c.args.policies.now.policies in
    let own = c.loop-policy.own.items in
    subst (IsGathering others all c.next.new.self) (sym (ap (map deref) c.in_ok-push.ensures.items ∙ map_push deref own c.in-Some.policy))
    (kept others all c.loop-policy.policy-iterator c.next.new.self c.in-Some.policy.now c.in-Some.ensures.steps (map deref own) c.loop-policy.invariant
    (λ s. let clash : false ≡ true = sym c.if-is_shared.false ∙ c.is_shared.ensures.1 s in cc))

pub loop-policy-preserved-then-is_shared : goal.loop-policy-preserved-then-is_shared
loop-policy-preserved-then-is_shared c =
    passed c.args.others.now c.args.policies.now.policies c.loop-policy.policy-iterator c.next.new.self c.in-Some.policy.now c.in-Some.ensures.steps
    (map deref c.loop-policy.own.items) c.loop-policy.invariant (c.is_shared.ensures.0 c.if-is_shared.true)

pub returns : goal.returns
returns c =
    ended c.args.others.now c.args.policies.now.policies c.loop-policy.policy-iterator (map deref c.loop-policy.own.items) c.in-None.ensures.steps.0 c.loop-policy.invariant
