use Rattle.policy_ext.proofs.RangeTests.{in_range_exact}
use Rattle.policy_ext.proofs.ip_addr.IpAddr.is_in_range.Goals as goal

pub returns-clause-addresses : goal.returns-clause-addresses
returns-clause-addresses c = rw (c.shares_bits.ensures.value) (in_range_exact c.args.self.now c.args.other.now c.shares_bits.ensures.fits)
