use Rattle.std.proofs.Common.{◌≡◌, map, take}
use Rattle.schema_core.proofs.parts.ids_of.Given as goal

abbrev pub invariant-loop-action : goal.invariant-loop-action
invariant-loop-action l = l.ids.items ≡ map (λ a. a.name) (take l.action-index l.action_ids)
