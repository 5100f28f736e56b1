use Rattle.directory_service.specs.Lines.{IsLineOn}
use Rattle.directory_service.proofs.EndedRuns.{answered_all}
use Rattle.directory_service.proofs.decisions.by_rows.Goals as goal

-- the rows are those behind the last line
pub returns-clause-done : goal.returns-clause-done
returns-clause-done g c is =
    let ends = c.ended_with.ensures.done is in
    let all = c.answer_lines-ended.ensures in
    let last = c.answer_lines-ended.result.1 in
    let asked = c.args.document.now in (
      last.conn,
      (
        all.ready,
        all.goes_on,
        λ w told conforms.
            (last.faults, answered_all (IsLineOn asked.schema asked.policies.policies w) _ _ _ _ _ _ _ (all.answered w told conforms) ends.0 ends.1),
      ),
    )
