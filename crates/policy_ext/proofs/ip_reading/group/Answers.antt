use Rattle.policy_ext.proofs.IpFacts.{number_small_if}
use Rattle.policy_ext.proofs.ip_reading.group.Goals as goal

pub returns-else-text-gt4-clause-small : goal.returns-else-text-gt4-clause-small
returns-else-text-gt4-clause-small c = number_small_if c.args.text.now c.number.result c.number.ensures c.if-text-gt4.false
