use Rattle.std.proofs.Common.{◌≡◌}
use Rattle.schema_types.specs.TyView.{attrs_of}
use Rattle.type_relations.specs.Consistent.{covered}
use Rattle.type_relations.proofs.consistent.are_covered.Given as goal

-- what is left decides
abbrev pub invariant-loop-key : goal.invariant-loop-key
invariant-loop-key l = covered l.open_attributes l.attrs (attrs_of l.key-iterator) ≡ covered l.open_attributes l.attrs l.others
