use Rattle.std.proofs.Common.{◌≡◌, ◌++◌, map}
use Rattle.serde_json.specs.View.{view}
use Rattle.manifest_core.specs.ManifestJson.{trie_entry_data}
use Rattle.manifest_core.proofs.write.write_entries.Given as goal

abbrev pub invariant-loop-request_type : goal.invariant-loop-request_type
invariant-loop-request_type l = map view l.written.items ++ map trie_entry_data l.request_type-iterator ≡ map trie_entry_data l.per_action.entries
