use Rattle.sqlite.specs.Held.{state}
use Rattle.entity_files.proofs.Lookups.{told_all}
use Rattle.entity_files.proofs.rows.select_all.Goals as goal

pub returns-clause-ready : goal.returns-clause-ready
returns-clause-ready g c =
    (told_all (state g.S.Store c.args.conn.now) (state g.S.Store c.query_all.new.self) c.query_all.result _ c.requires
    c.query_all.ensures.survives c.query_all.ensures.ok c.query_all.ensures.err).0

pub returns-clause-goes_on : goal.returns-clause-goes_on
returns-clause-goes_on g c =
    (told_all (state g.S.Store c.args.conn.now) (state g.S.Store c.query_all.new.self) c.query_all.result _ c.requires
    c.query_all.ensures.survives c.query_all.ensures.ok c.query_all.ensures.err).1

pub returns-clause-honest : goal.returns-clause-honest
returns-clause-honest g c =
    (told_all (state g.S.Store c.args.conn.now) (state g.S.Store c.query_all.new.self) c.query_all.result _ c.requires
    c.query_all.ensures.survives c.query_all.ensures.ok c.query_all.ensures.err).2
