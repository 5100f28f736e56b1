use Rattle.std.proofs.Common.{◌∙◌}
use Rattle.policy_expressions.proofs.FillSteps.{filled_with_none}
use Rattle.policy_expressions.proofs.expr.Expr.try_clone.Goals as goal

pub returns-in-Ok : goal.returns-in-Ok
returns-in-Ok g c = c.in-Ok.ensures ∙ filled_with_none c.args.self.now
