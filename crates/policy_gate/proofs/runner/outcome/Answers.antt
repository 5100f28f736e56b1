use Rattle.std.proofs.Common.{subst}
use Rattle.policy_gate.specs.Run.{Runs}
use Rattle.policy_gate.proofs.runner.outcome.Goals as goal

pub returns-in-Ok-clause-runs : goal.returns-in-Ok-clause-runs
returns-in-Ok-clause-runs g c =
    subst (λ o. Runs o (g.S.Source.state c.args.source.now) (g.S.Source.state c.outcome_for.new.source) (g.K.Sink.state c.args.sink.now) (g.K.Sink.state c.outcome_for.new.sink) c.outcome_for.result)
    c.in-Ok.ensures.read c.outcome_for.ensures.runs
