use Rattle.policy_ext.proofs.DecimalFacts.{decimal_exact}
use Rattle.policy_ext.proofs.decimal.Decimal.read.Goals as goal

pub returns : goal.returns
returns c = λ v. rw (c.from_number.ensures, c.ten_thousandths.ensures, c.as_bytes.ensures.value) (decimal_exact c.args.text.now v)
