use Rattle.std.proofs.Common.{◌+◌, ◌*◌, ◌≤◌}
use Rattle.policy_values.specs.Value.{Val, size_of, size_of_fields, fields_of}
use Rattle.entity_loading.specs.CannotGoOn.{tests_of, FieldsBlock}
use Rattle.entity_loading.proofs.blocking.+sticking.Given as goal

abbrev pub decreases-blocked_in : goal.decreases-blocked_in
decreases-blocked_in l = 2 * size_of l.value.now

abbrev pub decreases-blocked_in_fields : goal.decreases-blocked_in_fields
decreases-blocked_in_fields l = 2 * size_of_fields (fields_of l.fields.now.entries) + 1

abbrev pub invariant-blocked_in_fields-loop-key : goal.invariant-blocked_in_fields-loop-key
invariant-blocked_in_fields-loop-key l = record {
  left : (u : Val) → FieldsBlock (fields_of l.fields.entries) (tests_of l.trie) u → FieldsBlock (fields_of l.key-iterator) (tests_of l.trie) u;
  blocked : (u : Val) → FieldsBlock (fields_of l.key-iterator) (tests_of l.trie) u → FieldsBlock (fields_of l.fields.entries) (tests_of l.trie) u;
  within : size_of_fields (fields_of l.key-iterator) ≤ size_of_fields (fields_of l.fields.entries);
}
