use Rattle.std.proofs.Common.{◌≡◌}
use Rattle.policy_values.specs.Value.{fields_of}
use Rattle.conformance.specs.StoreRules.{first_broken, tag_fault}
use Rattle.conformance.proofs.store.broken_tag_of.Given as goal

-- what is left decides
abbrev pub invariant-loop-key : goal.invariant-loop-key
invariant-loop-key l = first_broken (tag_fault l.schema l.ty) (fields_of l.tags.entries) ≡ first_broken (tag_fault l.schema l.ty) (fields_of l.key-iterator)
