use Rattle.policy_ext.proofs.DurationFacts.{duration_exact}
use Rattle.policy_ext.proofs.duration.Duration.read.Goals as goal

pub returns : goal.returns
returns c = λ v. rw (c.from_number.ensures, c.milliseconds.ensures, c.as_bytes.ensures.value) (duration_exact c.args.text.now v)
