use Rattle.std.proofs.Common.{ap, ◌∙◌, arith}
use Rattle.std.proofs.lemmas.Grind.{common_steps}
use Rattle.serde_json.specs.Written.{has_float}
use Rattle.json_response.proofs.Floats.{entity_has_none}
use Rattle.json_response.proofs.slices.append_entities.Goals as goal

pub loop-entity-preserved : goal.loop-entity-preserved
loop-entity-preserved c =
    let written = c.in_ok-append.ensures (ap has_float c.in_ok-write_entity.ensures ∙ entity_has_none c.in-Some.entity.now) in
    grind (arith, common_steps, written)
