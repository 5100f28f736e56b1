use Rattle.std.proofs.Common.{◌≡◌, ◌++◌}
use Rattle.schema_types.specs.Ty.{keys_in}
use Rattle.schema_types.specs.TyView.{attrs_of}
use Rattle.type_relations.proofs.attributes.keys_of.Given as goal

abbrev pub invariant-loop-key : goal.invariant-loop-key
invariant-loop-key l = keys_in l.attrs ≡ l.keys.items ++ keys_in (attrs_of l.key-iterator)
