use Rattle.std.proofs.Common.{◌≡◌, false, sym, subst, ap, ◌∙◌}
use Rattle.std.specs.BTreeMap.{values, insert_entry}
use Rattle.policy_values.specs.Uid.{text_cmp}
use Rattle.policy_set.specs.PolicySet.{PolicySetData, is_taken, with_policy, IsLinkedIn}
use Rattle.policy_set.proofs.Sets.{put_values, policy_put}
use Rattle.policy_set.proofs.policy_set.PolicySet.put_policy.Goals as goal

pub invariant_of-self-2 : goal.invariant_of-self-2
invariant_of-self-2 c =
    let p = c.args.policy in
    policy_put c.self.inside.templates c.self.inside.policies c.put.new.map c.self.invariant p
    (subst (λ s. is_taken s p.id ≡ false) (sym c.self.view_is) c.requires.new) c.condition-condition.ensures.policy (subst (λ s. IsLinkedIn s p) (sym c.self.view_is) c.requires.link)
    c.in_ok-put.ensures.ordered (c.in_ok-put.ensures.put ∙ ap (λ k. insert_entry text_cmp c.self.inside.policies.entries k p) (c.in-Ok.ensures ∙ c.id.ensures))

pub returns-clause-added : goal.returns-clause-added
returns-clause-added c =
    let p = c.args.policy in
    let put = put_values (λ q. q.id) c.self.inside.policies c.put.new.map c.self.invariant.policy_ids p (c.in_ok-put.ensures.put ∙ ap (λ k. insert_entry text_cmp c.self.inside.policies.entries k p) (c.in-Ok.ensures ∙ c.id.ensures)) in
    ap (λ ps. let s : PolicySetData = record { templates = values c.self.inside.templates; policies = ps } in s) put ∙ ap (with_policy p) c.self.view_is
