use Rattle.std.proofs.Common.{refl}
use Rattle.sqlite.specs.Held.{state}
use Rattle.entity_files.specs.Rows.{known_store}
use Rattle.directory_service.proofs.Served.{by_store}
use Rattle.directory_service.proofs.lines.answer_marked.Goals as goal

pub returns-clause-answered : goal.returns-clause-answered
returns-clause-answered g c =
    let came = c.answer_lines-ended.ensures.comes (record { schema = c.args.schema; policies = c.args.policies; manifest = c.args.manifest; directory = c.args.directory; steps = c.new-steps.result }) (refl, refl, λ w told. told) in
    let new = c.answer_lines-ended.new in
    by_store (known_store (state g.S.Store new.answers.directory.conn)) c.args.directory.faults new.answers.directory.faults c.args.lines.now (g.K.Sink.state c.args.sink.now).holds (g.K.Sink.state new.sink).holds c.answer_lines-ended.result
    c.args.schema.now new.answers.schema.now c.args.policies.now new.answers.policies.now came.0 came.1 c.answer_lines-ended.ensures.answered

pub returns-clause-goes_on : goal.returns-clause-goes_on
returns-clause-goes_on g c =
    (c.answer_lines-ended.ensures.comes (record { schema = c.args.schema; policies = c.args.policies; manifest = c.args.manifest; directory = c.args.directory; steps = c.new-steps.result }) (refl, refl, λ w told. told)).2
