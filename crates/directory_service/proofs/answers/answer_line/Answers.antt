use Rattle.std.proofs.Common.{◌∙◌, refl, sym}
use Rattle.sqlite.specs.Held.{state}
use Rattle.entity_files.specs.Rows.{known_store}
use Rattle.byte_streams.proofs.Served.{rose_none}
use Rattle.directory_service.specs.declared.requests.LineRequest.TheVariants as line
use Rattle.directory_service.specs.Lines.{line_request}
use Rattle.directory_service.proofs.Written.{refusal_known, request_known}
use Rattle.directory_service.proofs.answers.answer_line.Goals as goal

pub returns-in-Request-clause-answer : goal.returns-in-Request-clause-answer
returns-in-Request-clause-answer g c =
    request_known c.args.schema.now c.args.policies.now.policies (known_store (state g.S.Store c.answer_request.new.directory.conn)) c.args.directory.now.faults c.answer_request.new.directory.faults
    (line_request c.args.line.now) c.in-Request.request c.answer_request.result (sym c.in_ok-asked.ensures ∙ c.in-Request.is) c.answer_request.ensures.answer

pub returns-in-NoRequest-clause-answer : goal.returns-in-NoRequest-clause-answer
returns-in-NoRequest-clause-answer g c =
    refusal_known c.args.schema.now c.args.policies.now.policies (known_store (state g.S.Store c.args.directory.now.conn)) c.args.directory.now.faults c.args.directory.now.faults
    (line_request c.args.line.now) line.NoRequest _ c.refused_line.result (sym c.in_ok-asked.ensures ∙ c.in-NoRequest.is) (rose_none c.args.directory.now.faults) (λ w. (refl, refl)) c.refused_line.ensures

pub returns-in-NoJson-clause-answer : goal.returns-in-NoJson-clause-answer
returns-in-NoJson-clause-answer g c =
    refusal_known c.args.schema.now c.args.policies.now.policies (known_store (state g.S.Store c.args.directory.now.conn)) c.args.directory.now.faults c.args.directory.now.faults
    (line_request c.args.line.now) line.NoJson _ c.refused_line-in-NoJson.result (sym c.in_ok-asked.ensures ∙ c.in-NoJson.is) (rose_none c.args.directory.now.faults) (λ w. (refl, refl)) c.refused_line-in-NoJson.ensures
