use Rattle.std.proofs.Common.{sym}
use Rattle.policy_ext.proofs.DateTimeFacts.{datetime_exact, datetime_none}
use Rattle.policy_ext.proofs.datetime_reading.milliseconds.Goals as goal

pub returns-in-Some : goal.returns-in-Some
returns-in-Some c = λ v. rw (c.instant.ensures, c.clock.ensures.value) (datetime_exact c.args.text.now (c.in-Some.year, c.in-Some.month, c.in-Some.day, c.in-Some.rest.now) c.day_of_date.result v (sym c.in-Some.ensures.value) c.day_of_date.ensures)

pub returns-in-None : goal.returns-in-None
returns-in-None c = λ v. datetime_none c.args.text.now v (sym c.in-None.ensures.value)
