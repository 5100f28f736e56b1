use Rattle.std.proofs.Common.{ℕ, ◌≤◌}
use Rattle.entity_store.specs.Store.{Store}
use Rattle.policy_values.specs.Value.{fields_of}
use Rattle.reads_spec.specs.Restrict.{values_in}
use Rattle.entity_loading.specs.Names.{SomeNames}
use Rattle.entity_loading.specs.Waiting.{Gives, WaitFrom}
use Rattle.entity_loading.proofs.NameSteps.{IsNaming}
use Rattle.entity_loading.proofs.names.name_each.Given as goal

abbrev pub invariant-loop-value : goal.invariant-loop-value
invariant-loop-value l = record {
  naming : (s : Store) → IsNaming (SomeNames s (values_in (fields_of l.values.entries)) l.trie) (SomeNames s l.value-iterator l.trie) (Gives s l.trie l.fn.ids l.fn.waiting) (Gives s l.trie l.ids l.waiting);
  later : (k : ℕ) → k ≤ l.trie.number → WaitFrom k l.trie.nodes l.fn.waiting → WaitFrom k l.trie.nodes l.waiting;
}
