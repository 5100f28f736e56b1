use Rattle.std.proofs.Common.{ℕ, ◌+◌, ◌-◌, ◌*◌, ◌≤◌, length}
use Rattle.entity_store.specs.Store.{Store}
use Rattle.policy_values.specs.Value.{rec, fields_of}
use Rattle.access_tries.specs.Views.{AreChildren}
use Rattle.entity_loading.specs.Names.{Names}
use Rattle.entity_loading.specs.Waiting.{Gives, WaitFrom}
use Rattle.entity_loading.proofs.NameSteps.{IsNaming, ChildNames}
use Rattle.entity_loading.proofs.names.+naming.Given as goal

abbrev pub decreases-name_at : goal.decreases-name_at
decreases-name_at l = 2 * (length l.trie.now.nodes - l.trie.now.number) + 1

abbrev pub decreases-name_fields : goal.decreases-name_fields
decreases-name_fields l = 2 * (length l.trie.now.nodes - l.trie.now.number)

abbrev pub invariant-name_fields-loop-name : goal.invariant-name_fields-loop-name
invariant-name_fields-loop-name l = record {
  naming : (s : Store) → IsNaming (Names s (rec (fields_of l.fields.entries)) l.trie) (ChildNames s (fields_of l.fields.entries) l.name-iterator) (Gives s l.trie l.fn.ids l.fn.waiting) (Gives s l.trie l.ids l.waiting);
  later : (k : ℕ) → k ≤ l.trie.number + 1 → WaitFrom k l.trie.nodes l.fn.waiting → WaitFrom k l.trie.nodes l.waiting;
  lead : AreChildren l.trie l.name-iterator;
}
