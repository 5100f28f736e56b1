use Rattle.std.proofs.Common.{◌∙◌, w32}
use Rattle.std.proofs.lemmas.Int.{to_z-of_z}
use Rattle.policy_ext.proofs.DayFacts.{day_is, narrow_parts}
use Rattle.policy_ext.proofs.datetime_reading.day_of_date.Goals as goal

pub returns-in-Ok : goal.returns-in-Ok
returns-in-Ok c =
    let parts = narrow_parts c.args.year c.args.month c.args.day c.in-Ok.date c.requires.year_low c.requires.month_low c.requires.day_low c.in-Ok.ensures.value in
    λ n. day_is c.args.year c.args.month c.args.day c.in-Ok.date _ n parts (to_z-of_z w32 c.days_since_epoch.result (record { sfits = c.days_since_epoch.type_inv }) ∙ c.days_since_epoch.ensures)
