use Rattle.std.proofs.Common.{arith, ◌+◌}
use Rattle.policy_ext.proofs.IpFacts.{one_group_more, fits_128}
use Rattle.policy_ext.proofs.ip_reading.with_group.Goals as goal

pub overflow_add-result-2 : goal.overflow_add-result-2
overflow_add-result-2 c =
    let sum = fits_128 (c.read.inside.count + 1) _ (omega arith) (one_group_more _ _ _ c.read.invariant.small c.in_ok-n.ensures.small) in
    omega (arith, sum)

pub overflow_mul-result : goal.overflow_mul-result
overflow_mul-result c =
    let sum = fits_128 (c.read.inside.count + 1) _ (omega arith) (one_group_more _ _ _ c.read.invariant.small c.in_ok-n.ensures.small) in
    omega (arith, sum)

pub invariant_of-result : goal.invariant_of-result
invariant_of-result c = record { few = omega arith; small = one_group_more _ _ _ c.read.invariant.small c.in_ok-n.ensures.small }
