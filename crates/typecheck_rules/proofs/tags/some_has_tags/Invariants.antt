use Rattle.std.proofs.Common.{◌≡◌}
use Rattle.schema_types.specs.Ty.{entity}
use Rattle.typing_spec.specs.Rules.{may_have_tags}
use Rattle.typecheck_rules.proofs.tags.some_has_tags.Given as goal

-- what is left decides
abbrev pub invariant-loop-name : goal.invariant-loop-name
invariant-loop-name l = may_have_tags l.schema (entity l.name-iterator) ≡ may_have_tags l.schema (entity l.lub)
