use Rattle.policy_ext.proofs.RangeFacts.{range_exact}
use Rattle.policy_ext.proofs.ip_addr.IpAddr.read.Goals as goal

pub returns : goal.returns
returns c = λ v. rw (c.range.ensures, c.as_bytes.ensures.value) (range_exact c.args.text.now v)
