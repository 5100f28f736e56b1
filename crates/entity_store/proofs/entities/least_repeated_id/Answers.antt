use Rattle.std.proofs.Common.{◌≡◌, ◌∙◌}
use Rattle.std.proofs.lemmas.List.{take_all}
use Rattle.entity_store.specs.FromParents.{ids_of}
use Rattle.entity_store.proofs.entities.least_repeated_id.Goals as goal

pub returns : goal.returns
returns c =
    let all : c.deref.result.now ≡ ids_of c.args.entities.now = rw (take_all c.loop-entity.entity-index c.args.entities.now c.loop-entity-test.false) at (c.deref.ensures.value ∙ c.loop-entity.invariant) in
    rw all at c.least_repeated.ensures
