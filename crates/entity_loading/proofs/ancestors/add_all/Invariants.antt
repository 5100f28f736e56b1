use Rattle.std.proofs.Common.{drop}
use Rattle.std.specs.BTreeMap.{get}
use Rattle.std.specs.Vec.Iter.{into_iter_items}
use Rattle.policy_values.specs.Uid.{uid_cmp}
use Rattle.entity_loading.specs.Answering.{AreUnderIds}
use Rattle.entity_loading.specs.KeptPart.{AreAlike}
use Rattle.entity_loading.proofs.MoreSteps.{IsAdding}
use Rattle.entity_loading.proofs.ancestors.add_all.Given as goal

abbrev pub invariant-loop-request : goal.invariant-loop-request
invariant-loop-request l = record {
  ids : AreUnderIds l.kept;
  alike : AreAlike (get uid_cmp l.kept) (get uid_cmp l.fn.kept);
  adding : IsAdding (get uid_cmp l.fn.kept) l.requests.items l.fn.lists.items (get uid_cmp l.kept) (drop l.request-index l.request-items) (into_iter_items l.lists);
}
