use Rattle.std.specs.Vec.Iter.{into_iter_items}
use Rattle.schema_core.specs.Entries.{ActionEntry}
use Rattle.schema_core.proofs.Actions.{AreMapped}
use Rattle.schema_core.proofs.listing.declared.Given as goal

abbrev pub invariant-loop-action : goal.invariant-loop-action
invariant-loop-action l = AreMapped (λ (a : ActionEntry). a.id) (λ a. a.principals) (λ a. a.resources) (λ a. a.member_of) (λ a. a.context) l.fn.declarations.actions (into_iter_items l.action-iterator) l.initial.listing l.listing
