use Rattle.std.proofs.Common.{◌≡◌, ◌++◌, map}
use Rattle.std.specs.BTreeMap.{get}
use Rattle.std.specs.Vec.Iter.{into_iter_items}
use Rattle.policy_values.specs.Uid.{uid_cmp}
use Rattle.entity_store.specs.Linked.{linked}
use Rattle.entity_store.proofs.entities.with_ancestors.Given as goal

abbrev pub invariant-loop-entity : goal.invariant-loop-entity
invariant-loop-entity l = record {
  split : l.fn.entities.items ≡ l.yielded ++ into_iter_items l.entity-iterator;
  made : l.list.items ≡ map (linked (get uid_cmp l.ancestors)) l.yielded;
}
