use Rattle.std.proofs.Common.{◌≡◌}
use Rattle.std.specs.List.{list_all}
use Rattle.schema_core.specs.Schema.{action_below}
use Rattle.conformance.proofs.store.has_only_its_ancestors.Given as goal

-- what is left has the answer of the whole
abbrev pub invariant-loop-above : goal.invariant-loop-above
invariant-loop-above l = list_all (action_below l.schema l.entity.uid) l.above-iterator ≡ list_all (action_below l.schema l.entity.uid) l.entity.ancestors
