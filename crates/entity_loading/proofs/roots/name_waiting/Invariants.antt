use Rattle.std.proofs.Common.{length}
use Rattle.std.specs.Prelude.{◌↔◌}
use Rattle.policy_values.specs.declared.entity_uid.EntityUID.{EntityUID}
use Rattle.entity_store.specs.Store.{Store}
use Rattle.access_tries.specs.Views.{whole}
use Rattle.entity_loading.specs.Names.{IsKept}
use Rattle.entity_loading.specs.Waiting.{Gives, WaitFrom}
use Rattle.entity_loading.proofs.WaitSteps.{nodes_left}
use Rattle.entity_loading.proofs.roots.name_waiting.Given as goal

abbrev pub invariant-loop-number : goal.invariant-loop-number
invariant-loop-number l = record {
  given : (s : Store) → IsKept l.kept s → (y : EntityUID) → (Gives s (whole l.nodes) l.ids l.waiting y) ↔ Gives s (whole l.nodes) l.fn.ids l.fn.waiting y;
  there : WaitFrom 0 l.nodes l.waiting;
}

abbrev pub decreases-loop-number : goal.decreases-loop-number
decreases-loop-number l = nodes_left (length l.nodes) l.waiting.entries
