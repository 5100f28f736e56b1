use Rattle.std.proofs.Common.{◌∙◌, ap}
use Rattle.sqlite.specs.Held.{state}
use Rattle.entity_files.specs.Loader.{loader_state}
use Rattle.entity_files.specs.Rows.{known_store}
use Rattle.entity_files.proofs.InOrder.{known_in_order}
use Rattle.directory_service.proofs.Attempted.{attempted_if, no_fault_if}
use Rattle.directory_service.proofs.attempt.try_decide.Goals as goal

pub returns-clause-right : goal.returns-clause-right
returns-clause-right g c w told stored =
    attempted_if c.args.schema.now c.args.policies.now c.args.request.now
    (loader_state (known_store (state g.S.Store c.new-loader.result.database.now)) c.new-loader.result.faults c.new-loader.result.rounds c.new-loader.result.lists)
    (loader_state (known_store (state g.S.Store c.load_for_request-loaded.new.loader.database.now)) c.load_for_request-loaded.new.loader.faults c.load_for_request-loaded.new.loader.rounds c.load_for_request-loaded.new.loader.lists)
    c.load_for_request-loaded.result
    c.load_for_request-loaded.ensures.decided c.load_for_request-loaded.ensures.cause c.attempt_of.result c.attempt_of.ensures
    w (record { known = ap (λ d. known_store (state g.S.Store d)) c.new-loader.ensures.database ∙ told; order = known_in_order (state g.S.Store c.args.conn.now) w told }) stored

pub returns-clause-no_fault : goal.returns-clause-no_fault
returns-clause-no_fault g c = no_fault_if c.args.policies.now.policies c.args.request.now c.load_for_request-loaded.result c.attempt_of.result c.attempt_of.ensures
