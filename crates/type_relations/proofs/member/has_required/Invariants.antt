use Rattle.std.specs.Prelude.{◌↔◌}
use Rattle.policy_values.specs.Value.{fields_of}
use Rattle.schema_types.specs.TyView.{attrs_of}
use Rattle.type_relations.specs.Member.{HasRequired}
use Rattle.type_relations.proofs.member.has_required.Given as goal

abbrev pub invariant-loop-key : goal.invariant-loop-key
invariant-loop-key l = HasRequired l.attrs (fields_of l.fields.entries) ↔ HasRequired (attrs_of l.key-iterator) (fields_of l.fields.entries)
