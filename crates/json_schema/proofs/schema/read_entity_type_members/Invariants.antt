use Rattle.std.proofs.Common.{◌≡◌, ◌++◌, option_map}
use Rattle.serde_json.specs.View.{members_view}
use Rattle.json_schema.specs.Schema.{entity_types_of_members}
use Rattle.json_schema.proofs.schema.read_entity_type_members.Given as goal

-- the types so far, and then those of the members that are left, are all
abbrev pub invariant-loop-key : goal.invariant-loop-key
invariant-loop-key l = option_map (λ ts. l.types.items ++ ts) (entity_types_of_members (members_view l.key-iterator)) ≡ entity_types_of_members (members_view l.members.entries)
