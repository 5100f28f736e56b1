use Rattle.entity_loading.proofs.PartSteps.{IsNaming}
use Rattle.entity_loading.proofs.kept_ancestors.named_at_places.Given as goal

abbrev pub invariant-loop-place : goal.invariant-loop-place
invariant-loop-place l = IsNaming l.nodes l.request l.kept l.place-iterator l.places.keys l.named
