use Rattle.std.proofs.Common.{◌≡◌, ◌++◌}
use Rattle.entity_loading.proofs.ancestors.items_of.Given as goal

abbrev pub invariant-loop-id : goal.invariant-loop-id
invariant-loop-id l = l.items.items ++ l.id-iterator ≡ l.ids.keys
