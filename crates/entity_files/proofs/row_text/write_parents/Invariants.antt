use Rattle.std.proofs.Common.{◌≡◌, ◌++◌, map}
use Rattle.serde_json.specs.View.{view}
use Rattle.json_response.specs.ValueJson.{uid_data}
use Rattle.entity_files.proofs.row_text.write_parents.Given as goal

abbrev pub invariant-loop-uid : goal.invariant-loop-uid
invariant-loop-uid l = map view l.written.items ++ map uid_data l.uid-iterator ≡ map uid_data l.parents.keys
