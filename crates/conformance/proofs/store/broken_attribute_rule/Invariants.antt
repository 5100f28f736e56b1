use Rattle.std.proofs.Common.{◌≡◌}
use Rattle.policy_values.specs.Value.{fields_of}
use Rattle.conformance.specs.StoreRules.{first_broken, attribute_fault}
use Rattle.conformance.proofs.store.broken_attribute_rule.Given as goal

-- what is left decides
abbrev pub invariant-loop-key : goal.invariant-loop-key
invariant-loop-key l = first_broken (attribute_fault l.schema l.attrs) (fields_of l.fields.entries) ≡ first_broken (attribute_fault l.schema l.attrs) (fields_of l.key-iterator)
