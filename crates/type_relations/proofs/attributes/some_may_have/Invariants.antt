use Rattle.std.proofs.Common.{◌≡◌}
use Rattle.schema_types.specs.Ty.{entity}
use Rattle.type_relations.specs.Attributes.{may_have}
use Rattle.type_relations.proofs.attributes.some_may_have.Given as goal

-- what is left decides
abbrev pub invariant-loop-entity_type : goal.invariant-loop-entity_type
invariant-loop-entity_type g l = may_have (g.S.DeclaredAttributes.declared l.schema) (entity l.entity_type-iterator) l.key ≡ may_have (g.S.DeclaredAttributes.declared l.schema) (entity l.lub) l.key
