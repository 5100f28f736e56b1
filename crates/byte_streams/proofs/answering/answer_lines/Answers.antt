use Rattle.byte_streams.proofs.Served.{served_end, served_more, served_none}
use Rattle.byte_streams.proofs.answering.answer_lines.Goals as goal

pub loop-init : goal.loop-init
loop-init g c = record {
  ready = c.requires;
  goes_on = λ n asked text h. h;
  comes = λ first h. h;
  served = served_none (g.A.AnswersLines.is_answer c.args.answers.now) (g.A.AnswersLines.faults c.args.answers.now) c.args.lines.now (g.K.Sink.state c.args.sink.now).holds;
}

pub returns-in-Err-clause-answered : goal.returns-in-Err-clause-answered
returns-in-Err-clause-answered g c =
    served_end (g.A.AnswersLines.is_answer c.loop.answers) (g.A.AnswersLines.is_answer c.answer_next.new.answers) c.answer_next.ensures.goes_on
    (g.A.AnswersLines.faults c.args.answers.now) (g.A.AnswersLines.faults c.loop.answers) (g.A.AnswersLines.faults c.answer_next.new.answers)
    c.args.lines.now c.loop.lines c.answer_next.new.lines (g.K.Sink.state c.args.sink.now).holds (g.K.Sink.state c.loop.sink).holds (g.K.Sink.state c.answer_next.new.sink).holds
    c.in-Err.ended c.loop.invariant.served c.in-Err.ensures.step

pub loop-preserved : goal.loop-preserved
loop-preserved g c = record {
  ready = c.answer_next.ensures.ready;
  goes_on = λ n asked text h. c.answer_next.ensures.goes_on n asked text (c.loop.invariant.goes_on n asked text h);
  comes = λ first h. c.answer_next.ensures.comes first (c.loop.invariant.comes first h);
  served = served_more (g.A.AnswersLines.is_answer c.loop.answers) (g.A.AnswersLines.is_answer c.answer_next.new.answers) c.answer_next.ensures.goes_on
      (g.A.AnswersLines.faults c.args.answers.now) (g.A.AnswersLines.faults c.loop.answers) (g.A.AnswersLines.faults c.answer_next.new.answers)
      c.args.lines.now c.loop.lines c.answer_next.new.lines (g.K.Sink.state c.args.sink.now).holds (g.K.Sink.state c.loop.sink).holds (g.K.Sink.state c.answer_next.new.sink).holds
      c.loop.invariant.served c.in_default.ensures.step;
}
