use Rattle.std.proofs.Common.{◌+◌, ◌*◌}
use Rattle.policy_values.specs.Value.{size_of, size_of_fields, fields_of}
use Rattle.entity_loader.specs.Asked.{some_along}
use Rattle.entity_loader.proofs.CutSteps.{IsCutting}
use Rattle.entity_loader.proofs.cut.+cutting.Given as goal

abbrev pub decreases-cut_value : goal.decreases-cut_value
decreases-cut_value l = 2 * size_of l.value.now

abbrev pub decreases-cut_fields : goal.decreases-cut_fields
decreases-cut_fields l = 2 * size_of_fields (fields_of l.fields.now.entries) + 1

abbrev pub invariant-cut_fields-loop-key : goal.invariant-cut_fields-loop-key
invariant-cut_fields-loop-key l = IsCutting (some_along l.nodes l.numbers) l.fields.entries l.key-iterator l.kept.entries
