use Rattle.link_spec.proofs.ScopeSlots.{bodies_read_no_slots}
use Rattle.link_spec.proofs.scope_laws.bodies_read_no_slots.Goals as goal

pub returns : goal.returns
returns c = bodies_read_no_slots
