use Rattle.std.proofs.Common.{sym}
use Rattle.policy_ext.proofs.datetime.DateTimeValue.read.Goals as goal

pub returns : goal.returns
returns c = λ v. rw (c.from_number.ensures, sym c.as_bytes.ensures.value) (c.milliseconds.ensures v)
