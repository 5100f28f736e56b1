use Rattle.std.proofs.Common.{◌∙◌}
use Rattle.sqlite.specs.Held.{state}
use Rattle.entity_files.proofs.Lookups.{entities_go_on, found_if}
use Rattle.entity_files.proofs.find.find_entity.Goals as goal

pub returns-in_err-rows-clause-goes_on : goal.returns-in_err-rows-clause-goes_on
returns-in_err-rows-clause-goes_on g c = entities_go_on (state g.S.Store c.args.conn.now) (state g.S.Store c.look_up.new.conn) c.look_up.ensures.goes_on

pub returns-clause-goes_on : goal.returns-clause-goes_on
returns-clause-goes_on g c = entities_go_on (state g.S.Store c.args.conn.now) (state g.S.Store c.look_up.new.conn) c.look_up.ensures.goes_on

pub returns-clause-honest : goal.returns-clause-honest
returns-clause-honest g c =
    found_if (state g.S.Store c.look_up.new.conn) c.args.uid.now c.as_str.result.now c.as_str-2.result.now c.in_ok-rows.rows.items c.read_found.result
    (c.as_str.ensures.value ∙ c.entity_type.ensures) (c.as_str-2.ensures ∙ c.eid.ensures) c.in_ok-rows.ensures.honest c.read_found.ensures
