use Rattle.std.proofs.Common.{map, ◌++◌, ◌∙◌}
use Rattle.level_spec.specs.Findings.{level_faults}
use Rattle.level_validate.specs.Faults.{fault_of}
use Rattle.level_validate.proofs.errors.faults_of.Goals as goal

pub returns : goal.returns
returns c = c.in_ok-check.ensures ∙ (λ i. map fault_of (c.new-faults.ensures.items i) ++ level_faults (c.action_entity_uid.ensures i) c.args.max_level c.args.condition.now)
