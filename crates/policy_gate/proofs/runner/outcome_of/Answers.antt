use Rattle.std.proofs.Common.{inr, subst}
use Rattle.policy_gate.specs.Reply.{answer, reply_view}
use Rattle.policy_gate.specs.Run.{Gives}
use Rattle.policy_gate.proofs.runner.outcome_of.Goals as goal

pub returns-in-Ok-clause-runs : goal.returns-in-Ok-clause-runs
returns-in-Ok-clause-runs g c =
    let gives = subst (λ t. Gives (answer c.in-Ok.reply.status t) (g.K.Sink.state c.args.sink.now) (g.K.Sink.state c.finish.new.sink) c.finish.result) c.as_str.ensures.value c.finish.ensures in
    inr (reply_view c.in-Ok.reply, c.in-Ok.ensures.expected, gives)
