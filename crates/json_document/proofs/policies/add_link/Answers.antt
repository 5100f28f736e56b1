use Rattle.std.proofs.Common.{◌≡◌, None, subst}
use Rattle.std.specs.Prelude.{IsSomeAnd}
use Rattle.policy_set.specs.Links.{linked_policy}
use Rattle.policy_set.specs.PolicySet.{link_fault, slot_values, template_at, with_policy}
use Rattle.json_document.specs.Policies.{slot_pairs, with_link}
use Rattle.json_document.proofs.Added.{linked_by, none_against}
use Rattle.json_document.proofs.policies.add_link.Goals as goal

pub returns-in-Ok : goal.returns-in-Ok
returns-in-Ok c =
    let l = c.args.link in let set = c.args.policies.now in let next = c.link.new.self in
    let t = template_at set l.template in
    let none = subst (λ vs. link_fault set l.template l.id vs ≡ None) c.in_ok-pairs.ensures c.in-Ok.ensures.answer.0 in
    let linked = subst (λ vs. IsSomeAnd t (λ u. next ≡ with_policy (linked_policy l.id (slot_values vs) u) set)) c.in_ok-pairs.ensures c.in-Ok.ensures.answer.1 in
    none_against c.args.index (link_fault set l.template l.id (slot_pairs l.values)) (with_link l t set) next none (linked_by l t set next linked)
