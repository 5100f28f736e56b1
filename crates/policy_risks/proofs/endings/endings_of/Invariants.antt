use Rattle.policy_risks.proofs.Closed.{IsPassed}
use Rattle.policy_risks.proofs.endings.endings_of.Given as goal

abbrev pub invariant-loop-env : goal.invariant-loop-env
invariant-loop-env l = IsPassed l.schema l.assumed l.policy l.env-items l.env-index l.closed
