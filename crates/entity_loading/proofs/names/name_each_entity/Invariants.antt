use Rattle.std.proofs.Common.{ℕ, ◌+◌, ◌≤◌, map}
use Rattle.entity_store.specs.Store.{Store}
use Rattle.policy_values.specs.Value.{entity}
use Rattle.entity_loading.specs.Names.{IsKept, SomeNames}
use Rattle.entity_loading.specs.Waiting.{Gives, WaitFrom}
use Rattle.entity_loading.proofs.NameSteps.{IsNaming}
use Rattle.entity_loading.proofs.names.name_each_entity.Given as goal

abbrev pub invariant-loop-uid : goal.invariant-loop-uid
invariant-loop-uid l = record {
  naming : (s : Store) → IsKept l.kept s → IsNaming (SomeNames s (map entity l.uids.keys) l.trie) (SomeNames s (map entity l.uid-iterator) l.trie) (Gives s l.trie l.fn.ids l.fn.waiting) (Gives s l.trie l.ids l.waiting);
  later : (k : ℕ) → k ≤ l.trie.number + 1 → WaitFrom k l.trie.nodes l.fn.waiting → WaitFrom k l.trie.nodes l.waiting;
}
