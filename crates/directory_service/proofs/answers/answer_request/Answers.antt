use Rattle.byte_streams.specs.Steps.{RoseBy}
use Rattle.sqlite.specs.Held.{state}
use Rattle.entity_files.specs.Rows.{known_store}
use Rattle.directory_service.specs.Attempts.{OfStore}
use Rattle.directory_service.specs.Rows.{IsRowAnswer, row_faults}
use Rattle.directory_service.proofs.Written.{known_line}
use Rattle.directory_service.proofs.answers.answer_request.Goals as goal

pub returns-clause-answer : goal.returns-clause-answer
returns-clause-answer g c =
    known_line c.row_line.result
    (λ a. OfStore c.args.schema.now (known_store (state g.S.Store c.decide_on.new.directory.conn)) (λ w. IsRowAnswer c.args.schema.now c.args.policies.now.policies w c.args.request.now a))
    (λ a. RoseBy (row_faults a) c.args.directory.now.faults c.decide_on.new.directory.faults)
    c.in_ok-answer.answer c.in_ok-answer.ensures.answer c.in_ok-answer.ensures.counted c.row_line.ensures
