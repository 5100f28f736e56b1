use Rattle.std.proofs.lemmas.List.Elements.{All-from_recursion}
use Rattle.policy_values.proofs.Keyed.{keys_ascend}
use Rattle.policy_values.specs.Uid.{uid_cmp}
use Rattle.entity_store.proofs.entities.Entities.iter.Goals as goal

pub returns-clause-ascending : goal.returns-clause-ascending
returns-clause-ascending c = rw c.self.view_is at (keys_ascend uid_cmp (λ e. e.uid) c.self.inside.entities c.self.invariant.keyed)

pub returns-clause-ancestors : goal.returns-clause-ancestors
returns-clause-ancestors c = rw c.self.view_is at (All-from_recursion _ _ c.self.invariant.ancestors)
