use Rattle.std.proofs.Common.{◌≡◌, None, sym, subst}
use Rattle.policy_set.specs.Links.{Fills}
use Rattle.policy_set.specs.PolicySet.{slot_fault, IsLinkedIn}
use Rattle.policy_set.proofs.Linked.{passed_fills}
use Rattle.policy_set.proofs.Sets.{linked_in}
use Rattle.policy_set.proofs.policy_set.PolicySet.linked.Goals as goal

pub link-requires : goal.link-requires
link-requires c =
    let t = c.in-Some.template.now in
    subst (λ w. Fills w t) (sym c.slot_values.ensures) (passed_fills t c.args.values.items (subst (λ vs. slot_fault t vs ≡ None) c.deref.ensures.value c.in_default.ensures))

pub returns-clause-link : goal.returns-clause-link
returns-clause-link c =
    let t = c.in-Some.template.now in
    let fills = passed_fills t c.args.values.items (subst (λ vs. slot_fault t vs ≡ None) c.deref.ensures.value c.in_default.ensures) in
    subst (IsLinkedIn c.args.self.now) (sym (c.in_ok-policy.ensures)) (linked_in c.args.self.now c.args.template_id.now t (sym c.in-Some.ensures) c.slot_values.result (subst (λ w. Fills w t) (sym c.slot_values.ensures) fills) c.args.id)
