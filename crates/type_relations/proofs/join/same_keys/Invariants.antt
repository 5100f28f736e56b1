use Rattle.std.proofs.Common.{◌≡◌}
use Rattle.schema_types.specs.TyView.{attrs_of}
use Rattle.type_relations.specs.Join.{same_keys}
use Rattle.type_relations.proofs.join.same_keys.Given as goal

abbrev pub invariant-loop-key : goal.invariant-loop-key
invariant-loop-key l = same_keys (attrs_of l.key-iterator) (attrs_of l.rest) ≡ same_keys l.a l.b
