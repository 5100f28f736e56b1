use Rattle.std.proofs.Common.{◌≡◌}
use Rattle.conformance.specs.StoreRules.{ancestors_fault}
use Rattle.conformance.proofs.store.broken_ancestor_rule.Given as goal

-- what is left decides
abbrev pub invariant-loop-above : goal.invariant-loop-above
invariant-loop-above l = ancestors_fault l.schema l.ty l.ancestors.keys ≡ ancestors_fault l.schema l.ty l.above-iterator
