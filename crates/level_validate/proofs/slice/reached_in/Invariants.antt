use Rattle.std.proofs.Common.{map}
use Rattle.std.specs.Map.Iter.{deref}
use Rattle.policy_values.specs.declared.entity_uid.EntityUID.{EntityUID}
use Rattle.level_spec.specs.Hops.{IsHop}
use Rattle.level_validate.proofs.slice.reached_in.Given as goal

abbrev pub invariant-loop-step : goal.invariant-loop-step
invariant-loop-step l = IsHop l.request l.entities l._step l.reached.keys (map (deref {X = EntityUID}) l.fresh.items)
