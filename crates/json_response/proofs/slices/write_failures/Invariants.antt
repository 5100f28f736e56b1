use Rattle.std.proofs.Common.{◌≡◌, map, take}
use Rattle.serde_json.specs.View.{view}
use Rattle.json_response.specs.SliceJson.{failure_data}
use Rattle.json_response.proofs.slices.write_failures.Given as goal

abbrev pub invariant-loop-failure : goal.invariant-loop-failure
invariant-loop-failure l = map view l.written.items ≡ map failure_data (take l.failure-index l.failures)
