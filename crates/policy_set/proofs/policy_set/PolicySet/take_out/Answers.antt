use Rattle.std.proofs.Common.{◌≡◌, None, sym, ap, ◌∙◌, subst}
use Rattle.policy_set.specs.Removal.{removal_fault, without}
use Rattle.policy_set.proofs.Removal.{holds_left, set_left}
use Rattle.policy_set.proofs.policy_set.PolicySet.take_out.Goals as goal

pub invariant_of-self : goal.invariant_of-self
invariant_of-self c =
    holds_left c.self.inside.templates c.remove-template.new.self c.self.inside.policies c.remove-policy.new.self c.args.id.now c.self.invariant c.remove-template.ensures.entries c.remove-policy.ensures.entries
    (subst (λ s. removal_fault s c.args.id.now ≡ None) (sym c.self.view_is) c.requires)
    c.remove-template.ensures.ordered c.remove-policy.ensures.ordered

pub returns : goal.returns
returns c =
    set_left c.self.inside.templates c.remove-template.new.self c.self.inside.policies c.remove-policy.new.self c.args.id.now c.self.invariant c.remove-template.ensures.entries c.remove-policy.ensures.entries
    ∙ ap (without c.args.id.now) c.self.view_is
