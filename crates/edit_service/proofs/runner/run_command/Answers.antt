use Rattle.edit_service.specs.Run.{answer_of}
use Rattle.edit_service.proofs.Answered.{given}
use Rattle.edit_service.proofs.runner.run_command.Goals as goal

pub returns : goal.returns
returns g c =
    given (answer_of c.args.command) (g.S.Source.state c.args.source.now) (g.S.Source.state c.reply_to-reply.new.source) (g.K.Sink.state c.args.sink.now) (g.K.Sink.state c.finish_with.new.sink)
    c.reply_to-reply.result c.finish_with.result c.reply_to-reply.ensures c.finish_with.ensures
