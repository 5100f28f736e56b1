use Rattle.std.proofs.Common.{ℕ, Some, IfOk, subst}
use Rattle.std.specs.Prelude.{string_bytes}
use Rattle.byte_streams.specs.Steps.{RoseBy}
use Rattle.byte_streams.specs.Lines.{IsNext}
use Rattle.byte_streams.proofs.Served.{answer_short, step_written}
use Rattle.byte_streams.proofs.answering.answer_next.Goals as goal

pub returns-in-Text-clause-step : goal.returns-in-Text-clause-step
returns-in-Text-clause-step g c =
    let line = c.in-Text.line.items in
    let taken = subst (IsNext c.args.lines.now c.next_line.new.self) c.in-Text.is c.next_line.ensures in
    step_written (g.A.AnswersLines.is_answer c.answer.new.self) (g.A.AnswersLines.faults c.args.answers.now) (g.A.AnswersLines.faults c.answer.new.self)
    c.args.lines.now c.next_line.new.self (g.K.Sink.state c.args.sink.now).holds (g.K.Sink.state c.write_answer.new.sink).holds line c.answer.result c.write_answer.result
    taken.1 c.answer.ensures.counted
    (answer_short (g.A.AnswersLines.is_answer c.answer.new.self) line (g.A.AnswersLines.faults c.args.answers.now) (g.A.AnswersLines.faults c.answer.new.self) c.answer.result taken.0
    (subst (λ l. IfOk c.answer.result (λ t. (n : ℕ) × g.A.AnswersLines.is_answer c.answer.new.self n (Some l) (string_bytes t) × RoseBy n (g.A.AnswersLines.faults c.args.answers.now) (g.A.AnswersLines.faults c.answer.new.self)))
    c.as_slice.ensures.value c.answer.ensures.answer))
    c.write_answer.ensures
