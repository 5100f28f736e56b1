use Rattle.std.proofs.Common.{◌≡◌, ◌++◌, map, drop}
use Rattle.std.specs.Prelude.{filter}
use Rattle.policy_values.specs.Reaches.{has}
use Rattle.policy_values.specs.Uid.{text_cmp}
use Rattle.schema_core.specs.Schema.{TypeData}
use Rattle.link_spec.specs.Linked.{types_above}
use Rattle.policy_typecheck.specs.Pointed.{pointed}
use Rattle.policy_typecheck.proofs.slots.types_above.Given as goal

-- the types so far, and those of what is left
abbrev pub invariant-loop-entity_type : goal.invariant-loop-entity_type
invariant-loop-entity_type l =
    pointed l.above.items ++ map (λ (t : TypeData). t.name) (filter (λ t. has text_cmp t.descendants l.name) (drop l.entity_type-index l.schema.entity_types)) ≡ types_above l.schema l.name
