use Rattle.std.proofs.Common.{◌≡◌, false, sym, subst, ap, ◌∙◌}
use Rattle.std.specs.BTreeMap.{values, insert_entry}
use Rattle.policy_values.specs.Uid.{text_cmp}
use Rattle.policy_set.specs.PolicySet.{PolicySetData, is_taken, with_template}
use Rattle.policy_set.proofs.Sets.{put_values, template_put}
use Rattle.policy_set.proofs.policy_set.PolicySet.put_template.Goals as goal

pub invariant_of-self-2 : goal.invariant_of-self-2
invariant_of-self-2 c =
    let t = c.args.template in
    template_put c.self.inside.templates c.put.new.map c.self.inside.policies c.self.invariant t
    (subst (λ s. is_taken s t.id ≡ false) (sym c.self.view_is) c.requires.new) (record { slot = c.requires.slot; body = c.condition-condition.ensures.body })
    c.in_ok-put.ensures.ordered (c.in_ok-put.ensures.put ∙ ap (λ k. insert_entry text_cmp c.self.inside.templates.entries k t) (c.in-Ok.ensures ∙ c.id.ensures))

pub returns-clause-added : goal.returns-clause-added
returns-clause-added c =
    let t = c.args.template in
    let put = put_values (λ u. u.id) c.self.inside.templates c.put.new.map c.self.invariant.template_ids t (c.in_ok-put.ensures.put ∙ ap (λ k. insert_entry text_cmp c.self.inside.templates.entries k t) (c.in-Ok.ensures ∙ c.id.ensures)) in
    ap (λ ts. let s : PolicySetData = record { templates = ts; policies = values c.self.inside.policies } in s) put ∙ ap (with_template t) c.self.view_is
