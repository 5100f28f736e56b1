use Rattle.std.proofs.Common.{◌≡◌, map, take}
use Rattle.schema_core.proofs.parts.declared_ids.Given as goal

abbrev pub invariant-loop-action : goal.invariant-loop-action
invariant-loop-action l = l.ids.items ≡ map (λ a. a.id) (take l.action-index l.declarations.actions)
