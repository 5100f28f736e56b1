use Rattle.std.proofs.Common.{map, sym, ap, ◌∙◌}
use Rattle.std.specs.Prelude.{fold, filter}
use Rattle.std.specs.BTreeMap.{values, insert_entry}
use Rattle.std.specs.Map.Iter.{deref}
use Rattle.policy_values.specs.Uid.{text_cmp}
use Rattle.policy_set.specs.Condition.{written_of}
use Rattle.policy_set.specs.PolicySet.{placed, is_static}
use Rattle.policy_set.proofs.Sets.{put_keys}
use Rattle.policy_set.proofs.Written.{borrowed_id, put_shown, static_next}
use Rattle.policy_set.proofs.policy_set.PolicySet.written.Goals as goal

pub loop-template-preserved : goal.loop-template-preserved
loop-template-preserved c =
    let t = c.in-Some.template in
    let m = c.loop-template.by_id in
    let put = c.in_ok-put.ensures.put ∙ ap (λ k. insert_entry text_cmp m.entries k t) (c.in_ok-try_clone.ensures ∙ c.id.ensures) in
    record {
      keys = put_keys borrowed_id m c.put.new.map c.loop-template.invariant.keys t put c.in_ok-put.ensures.ordered;
      made =
          ap (λ ts. fold placed ts c.next.new.self) (put_shown m c.put.new.map c.loop-template.invariant.keys t put)
          ∙ ap (fold placed (map deref (values m))) (sym c.in-Some.ensures.steps)
          ∙ c.loop-template.invariant.made;
    }

pub loop-policy-preserved-in_ok-put-2 : goal.loop-policy-preserved-in_ok-put-2
loop-policy-preserved-in_ok-put-2 c =
    let p = c.in-Some-policy.policy in
    let t = c.written.result in
    let m = c.loop-policy.by_id in
    let n = c.put-then-is_static.new.map in
    let rest = c.next-in-loop-policy.new.self in
    let put = c.in_ok-put-2.ensures.put ∙ ap (λ k. insert_entry text_cmp m.entries k t) (c.in_ok-try_clone-2.ensures ∙ c.id-then-is_static.ensures ∙ sym (ap (λ u. u.id) c.written.ensures)) in
    record {
      keys = put_keys borrowed_id m n c.loop-policy.invariant.keys t put c.in_ok-put-2.ensures.ordered;
      made =
          ap (λ ts. fold placed ts (map written_of (filter is_static rest))) (put_shown m n c.loop-policy.invariant.keys t put ∙ ap (placed (map deref (values m))) c.written.ensures)
          ∙ sym (static_next (map deref (values m)) p.now rest (sym c.is_static.ensures ∙ c.if-is_static.true))
          ∙ ap (λ ps. fold placed (map deref (values m)) (map written_of (filter is_static ps))) (sym c.in-Some-policy.ensures.steps)
          ∙ c.loop-policy.invariant.made;
    }
