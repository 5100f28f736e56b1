use Rattle.std.proofs.Common.{◌++◌}
use Rattle.std.specs.List.{AllByRecursion}
use Rattle.std.specs.List.Sorted.{IsStrictlySortedBy}
use Rattle.std.specs.Map.{keys_of}
use Rattle.policy_values.specs.Uid.{uid_cmp}
use Rattle.entity_store.specs.Store.{Store}
use Rattle.entity_loading.specs.Names.{IsKept}
use Rattle.entity_loading.specs.Unasked.{AsksForSome}
use Rattle.entity_loading.proofs.AddSteps.{ids_of}
use Rattle.entity_loading.proofs.AskedSteps.{IsAsking}
use Rattle.entity_loading.proofs.ancestors.ancestors_requests.Given as goal

abbrev pub invariant-loop-uid : goal.invariant-loop-uid
invariant-loop-uid l = record {
  some : AllByRecursion AsksForSome l.requests.items;
  ascending : IsStrictlySortedBy uid_cmp (ids_of l.requests.items ++ keys_of l.uid-iterator);
  asked : (t : Store) → IsKept l.kept t → IsAsking l.nodes l.request t l.asked.keys l.requests.items l.uid-iterator;
}
