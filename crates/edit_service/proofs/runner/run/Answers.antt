use Rattle.std.proofs.Common.{◌∙◌}
use Rattle.json_document.proofs.OneReading.{one_reading}
use Rattle.edit_service.specs.Run.{IsAnswerToBytes}
use Rattle.edit_service.specs.declared.words.Command.TheVariants.{Compare, FailOpen}
use Rattle.edit_service.proofs.Answered.{answered_to, complete, exact, forbids_complete}
use Rattle.edit_service.proofs.runner.run.Goals as goal

pub returns-in-Some-clause-exact : goal.returns-in-Some-clause-exact
returns-in-Some-clause-exact g c =
    let old = g.S.Source.state c.args.source.now in
    let new = g.S.Source.state c.run_command.new.source in
    let sink = g.K.Sink.state c.args.sink.now in
    let sink' = g.K.Sink.state c.run_command.new.sink in
    λ asked. exact IsAnswerToBytes old new sink sink' c.run_command.result
    (answered_to c.command_in.result c.in-Some.command Compare c.in-Some.is (c.command_in.ensures ∙ asked) old new sink sink' c.run_command.result c.run_command.ensures)

pub returns-in-Some-clause-complete : goal.returns-in-Some-clause-complete
returns-in-Some-clause-complete g c =
    let old = g.S.Source.state c.args.source.now in
    let new = g.S.Source.state c.run_command.new.source in
    let sink = g.K.Sink.state c.args.sink.now in
    let sink' = g.K.Sink.state c.run_command.new.sink in
    λ asked. complete old new sink sink' c.run_command.result
    (answered_to c.command_in.result c.in-Some.command Compare c.in-Some.is (c.command_in.ensures ∙ asked) old new sink sink' c.run_command.result c.run_command.ensures)

pub returns-in-Some-clause-forbids_complete : goal.returns-in-Some-clause-forbids_complete
returns-in-Some-clause-forbids_complete g c =
    let old = g.S.Source.state c.args.source.now in
    let new = g.S.Source.state c.run_command.new.source in
    let sink = g.K.Sink.state c.args.sink.now in
    let sink' = g.K.Sink.state c.run_command.new.sink in
    λ a asked. forbids_complete one_reading a old new sink sink' c.run_command.result
    (answered_to c.command_in.result c.in-Some.command (FailOpen a) c.in-Some.is (c.command_in.ensures ∙ asked) old new sink sink' c.run_command.result c.run_command.ensures)
