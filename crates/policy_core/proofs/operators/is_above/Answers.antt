use Rattle.std.proofs.Common.{ap, sym, ◌∙◌}
use Rattle.std.specs.Option.{option_copied}
use Rattle.policy_core.specs.Operators.{above}
use Rattle.policy_core.proofs.IdSteps.{above_listed}
use Rattle.policy_core.proofs.operators.is_above.Goals as goal

pub returns-in-Some : goal.returns-in-Some
returns-in-Some c =
    above_listed c.has_ancestor.result c.args.uid.now c.in-Some.entity.now.ancestors c.has_ancestor.ensures
    ∙ ap (λ o. above (option_copied o) c.args.uid.now) (sym c.in-Some.is)
