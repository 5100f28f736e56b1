use Rattle.std.specs.Vec.Iter.{into_iter_items}
use Rattle.schema_core.specs.Schema.{ActionData}
use Rattle.schema_core.proofs.Actions.{AreMapped}
use Rattle.schema_core.proofs.listing.listed.Given as goal

abbrev pub invariant-loop-action : goal.invariant-loop-action
invariant-loop-action l = AreMapped (λ (a : ActionData). a.name) (λ a. a.principals) (λ a. a.resources) (λ a. a.descendants) (λ a. a.context) l.fn.action_ids.items (into_iter_items l.action-iterator) l.initial.listing l.listing
