use Rattle.std.proofs.Common.{arith, ◌∙◌}
use Rattle.policy_ext.proofs.IpFacts.{shift_step, shift_small}
use Rattle.policy_ext.proofs.ip_reading.shifted.Goals as goal

pub overflow_mul-shifted : goal.overflow_mul-shifted
overflow_mul-shifted c = omega (arith, shift_small c.loop-i.shifted c.loop-i._i c.args.more c.loop-i-test.true (omega (arith, c.loop-i.invariant)))

pub loop-i-preserved : goal.loop-i-preserved
loop-i-preserved c = shift_step c.loop-i.shifted c.loop-i._i c.args.more c.loop-i-test.true ∙ c.loop-i.invariant
