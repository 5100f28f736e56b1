use Rattle.std.proofs.Common.{subst, refl}
use Rattle.policy_set.specs.Condition.{IsPolicy}
use Rattle.policy_set.proofs.Plain.{no_slot}
use Rattle.policy_set.proofs.policy.Policy.condition.Goals as goal

pub returns-clause-policy : goal.returns-clause-policy
returns-clause-policy c =
    subst IsPolicy c.self.view_is (record { condition = refl; no_slot = no_slot c.self.inside.template c.self.invariant c.condition.ensures.body })
