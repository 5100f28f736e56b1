use Rattle.sqlite.specs.Held.{state}
use Rattle.entity_files.proofs.Lookups.{told}
use Rattle.entity_files.proofs.find.look_up.Goals as goal

pub returns-clause-ready : goal.returns-clause-ready
returns-clause-ready g c =
    (told (state g.S.Store c.args.conn.now) (state g.S.Store c.ask.new.conn) c.args.kind.now c.args.eid.now c.ask.result _ c.requires
    c.ask.ensures.survives c.ask.ensures.ok
    c.ask.ensures.err).0

pub returns-clause-goes_on : goal.returns-clause-goes_on
returns-clause-goes_on g c =
    (told (state g.S.Store c.args.conn.now) (state g.S.Store c.ask.new.conn) c.args.kind.now c.args.eid.now c.ask.result _ c.requires
    c.ask.ensures.survives c.ask.ensures.ok
    c.ask.ensures.err).1

pub returns-clause-honest : goal.returns-clause-honest
returns-clause-honest g c =
    (told (state g.S.Store c.args.conn.now) (state g.S.Store c.ask.new.conn) c.args.kind.now c.args.eid.now c.ask.result _ c.requires
    c.ask.ensures.survives c.ask.ensures.ok
    c.ask.ensures.err).2
