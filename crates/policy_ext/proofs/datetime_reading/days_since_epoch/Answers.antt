use Rattle.std.proofs.Common.{ap, subst, sym, ◌∙◌, w32, to_z, of_z, FitsSigned}
use Rattle.std.proofs.lemmas.Int.{to_z-of_z}
use Rattle.jiff.specs.Words.{epoch_day}
use Rattle.policy_ext.proofs.DayFacts.{day_fits, days_between}
use Rattle.policy_ext.proofs.datetime_reading.days_since_epoch.Goals as goal

pub overflow_cast-result : goal.overflow_cast-result
overflow_cast-result c =
    let days = days_between c.args.date c.date-epoch.result _ c.as_hours.result (record { sfits = c.as_hours.type_inv }) c.date-epoch.ensures c.duration_since.ensures c.as_hours.ensures in
    subst (FitsSigned w32) (sym days) (day_fits c.args.date)

pub returns : goal.returns
returns c =
    let days = days_between c.args.date c.date-epoch.result _ c.as_hours.result (record { sfits = c.as_hours.type_inv }) c.date-epoch.ensures c.duration_since.ensures c.as_hours.ensures in
    ap (λ n. to_z w32 (of_z w32 n)) days ∙ to_z-of_z w32 (epoch_day c.args.date) (day_fits c.args.date)
