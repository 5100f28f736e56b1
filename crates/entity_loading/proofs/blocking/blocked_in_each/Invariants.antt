use Rattle.policy_values.specs.Value.{Val, fields_of}
use Rattle.reads_spec.specs.Restrict.{values_in}
use Rattle.entity_loading.specs.CannotGoOn.{tests_of, SomeBlocks}
use Rattle.entity_loading.proofs.blocking.blocked_in_each.Given as goal

abbrev pub invariant-loop-value : goal.invariant-loop-value
invariant-loop-value l = record {
  left : (u : Val) → SomeBlocks (values_in (fields_of l.values.entries)) (tests_of l.trie) u → SomeBlocks l.value-iterator (tests_of l.trie) u;
  blocked : (u : Val) → SomeBlocks l.value-iterator (tests_of l.trie) u → SomeBlocks (values_in (fields_of l.values.entries)) (tests_of l.trie) u;
}
