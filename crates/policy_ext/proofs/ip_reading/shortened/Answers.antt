use Rattle.std.proofs.Common.{arith}
use Rattle.policy_ext.proofs.IpFacts.{shift_room}
use Rattle.policy_ext.proofs.ip_reading.shortened.Goals as goal

pub shifted-requires : goal.shifted-requires
shifted-requires c = omega (arith, shift_room _ _ _ _ c.if-left-right-ge8.false c.left.invariant.small c.right.invariant.small)

pub overflow_add-result : goal.overflow_add-result
overflow_add-result c = omega (arith, c.shifted.ensures, shift_room _ _ _ _ c.if-left-right-ge8.false c.left.invariant.small c.right.invariant.small)
