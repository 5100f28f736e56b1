use Rattle.std.proofs.Common.{◌≡◌, ◌++◌}
use Rattle.schema_types.specs.SchemaView.{schema_attrs_of}
use Rattle.policy_validate.specs.Descriptions.{required_keys}
use Rattle.policy_validate.proofs.traits.keys_required.Given as goal

-- the keys so far, and those of what is left
abbrev pub invariant-loop-key : goal.invariant-loop-key
invariant-loop-key l = l.keys.items ++ required_keys (schema_attrs_of l.key-iterator) ≡ required_keys (schema_attrs_of l.entries.entries)
