use Rattle.std.proofs.Common.{◌∙◌}
use Rattle.policy_values.proofs.Keyed.{value_found}
use Rattle.policy_values.specs.Uid.{uid_cmp}
use Rattle.entity_store.proofs.entities.Entities.entity.Goals as goal

pub returns : goal.returns
returns c = c.get.ensures.value ∙ rw c.self.view_is at (value_found uid_cmp (λ e. e.uid) c.self.inside.entities c.self.invariant.keyed c.args.uid.now)
