use Rattle.std.proofs.Common.{sym, rules}
use Rattle.serde_json.specs.View.{view}
use Rattle.json_values.proofs.Bytes.{json_found, json_none}
use Rattle.json_values.proofs.json.parse_json.Goals as goal

pub returns-in-Ok : goal.returns-in-Ok
returns-in-Ok c = sym (json_found c.args.bytes.now (view c.in-Ok.value) c.in-Ok.ensures.ok.0 c.in-Ok.ensures.ok.1)

pub returns-else-is_memory : goal.returns-else-is_memory
returns-else-is_memory c = sym (json_none c.args.bytes.now (c.in-Err.ensures.err (search rules)))
