use Rattle.std.proofs.Common.{◌≡◌, ◌++◌, map, option_map, string_bytes}
use Rattle.std.specs.Map.{keys_of}
use Rattle.serde_json.specs.View.{members_view}
use Rattle.json_schema.specs.Types.{attributes_of_members}
use Rattle.json_schema.proofs.types.+types.Given as goal

-- the attributes so far, and then those of what is left, are all; and their keys are those of the members
abbrev pub invariant-read_entries-loop-key : goal.invariant-read_entries-loop-key
invariant-read_entries-loop-key l = record {
  read : option_map (λ xs. l.entries.entries ++ xs) (attributes_of_members (members_view l.key-iterator)) ≡ attributes_of_members (members_view l.members.entries);
  keys : map string_bytes (keys_of l.members.entries) ≡ keys_of l.entries.entries ++ map string_bytes (keys_of l.key-iterator);
}
