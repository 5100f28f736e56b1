use Rattle.std.proofs.Common.{◌≡◌}
use Rattle.policy_values.specs.Value.{fields_of}
use Rattle.schema_types.specs.TyView.{attrs_of}
use Rattle.conformance.specs.Misfits.{first_missing}
use Rattle.conformance.proofs.misfits.first_missing.Given as goal

-- what is left decides
abbrev pub invariant-loop-key : goal.invariant-loop-key
invariant-loop-key l = first_missing l.attrs (fields_of l.fields.entries) ≡ first_missing (attrs_of l.key-iterator) (fields_of l.fields.entries)
