use Rattle.std.proofs.Common.{arith}
use Rattle.json_document.specs.Policy.{policy_of_parts}
use Rattle.json_document.proofs.Depths.{slot_read}
use Rattle.json_document.proofs.policy.with_expression.Goals as goal

pub returns-else-depth-ge-MOST_BODY_DEPTH : goal.returns-else-depth-ge-MOST_BODY_DEPTH
returns-else-depth-ge-MOST_BODY_DEPTH c =
    slot_read (policy_of_parts c.args.parts c.args.body)
    (λ h. omega (arith, c.if-depth-ge-MOST_BODY_DEPTH.false, c.depth-depth.ensures.value))
    (c.new.ensures.slot.0 (cc (c.in-Err-SlotInCondition.is, c.in-Err-SlotInCondition.field-0-is)))
