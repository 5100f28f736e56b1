use Rattle.std.proofs.Common.{◌≡◌, Some, sym}
use Rattle.std.proofs.lemmas.List.{append-nil}
use Rattle.serde_json.specs.View.{members_view}
use Rattle.json_schema.specs.Schema.{entity_types_of_members}
use Rattle.json_schema.proofs.Once.{names_once}
use Rattle.json_schema.proofs.schema.read_entity_type_members.Goals as goal

pub returns-clause-once : goal.returns-clause-once
returns-clause-once c =
    let ts = c.loop-key.types.items in
    let all : entity_types_of_members (members_view c.args.members.now.entries) ≡ Some ts =
    sym (rw (c.in-None.ensures.steps.0, append-nil) at c.loop-key.invariant) in
    names_once c.args.members.now.entries ts all c.iter-key-items.ensures.ordered
