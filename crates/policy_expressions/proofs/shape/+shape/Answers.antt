use Rattle.std.proofs.Common.{arith}
use Rattle.policy_expressions.proofs.ShapeSteps.{length-SameShapes}
use Rattle.policy_expressions.proofs.shape.+shape.Goals as goal

pub same_shapes-returns-then-len : goal.same_shapes-returns-then-len
same_shapes-returns-then-len g t c =
    (λ e. cc, λ h. absurd (omega (arith, length-SameShapes c.args.xs.now.items c.args.us.now.items h)))
