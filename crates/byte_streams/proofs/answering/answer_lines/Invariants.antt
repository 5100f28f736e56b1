use Rattle.std.proofs.Common.{List, ℕ, Option}
use Rattle.byte_streams.proofs.Served.{AreServed}
use Rattle.byte_streams.proofs.answering.answer_lines.Given as goal

abbrev pub invariant-loop : goal.invariant-loop
invariant-loop g l = record {
  ready : g.A.AnswersLines.is_ready l.answers;
  goes_on : (n : ℕ) (asked : Option (List ℕ)) (text : List ℕ) → g.A.AnswersLines.is_answer l.initial.answers n asked text → g.A.AnswersLines.is_answer l.answers n asked text;
  comes : (first : g.row.A.Denot) → g.A.AnswersLines.comes_of first l.initial.answers → g.A.AnswersLines.comes_of first l.answers;
  served : AreServed (g.A.AnswersLines.is_answer l.answers) (g.A.AnswersLines.faults l.initial.answers) (g.A.AnswersLines.faults l.answers) l.initial.lines l.lines (g.K.Sink.state l.initial.sink).holds (g.K.Sink.state l.sink).holds;
}
