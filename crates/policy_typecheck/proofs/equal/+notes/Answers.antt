use Rattle.std.proofs.Common.{arith}
use Rattle.policy_typecheck.proofs.NoteSteps.{length-SameOfTrees}
use Rattle.policy_typecheck.proofs.equal.+notes.Goals as goal

pub same_of_all-returns-then-len : goal.same_of_all-returns-then-len
same_of_all-returns-then-len t c =
    (λ e. cc, λ h. absurd (omega (arith, length-SameOfTrees c.args.xs.now.items c.args.us.now.items h)))
