use Rattle.std.specs.Vec.Iter.{into_iter_items}
use Rattle.schema_core.specs.Entries.{TypeEntry}
use Rattle.schema_core.proofs.Actions.{AreTyped}
use Rattle.schema_core.proofs.listing.declared_types.Given as goal

abbrev pub invariant-loop-entity_type : goal.invariant-loop-entity_type
invariant-loop-entity_type l = AreTyped (λ (t : TypeEntry). t.name) (λ t. t.member_of) (λ t. t.kind) l.fn.entity_types.items (into_iter_items l.entity_type-iterator) l.listing
