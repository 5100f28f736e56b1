use Rattle.std.proofs.Common.{Some, refl, ap}
use Rattle.entity_loader.specs.Memory.{slicer_state}
use Rattle.entity_manifest.specs.Loaded.{IsReported}
use Rattle.entity_manifest.proofs.OfStore.{store_ordered, memory_alone}
use Rattle.entity_manifest.proofs.loading.load_slice.Goals as goal

pub returns-clause-slice : goal.returns-clause-slice
returns-clause-slice g c =
    let s = c.args.entities.now in
    let known : IsReported (slicer_state c.new-loader.result) s =
    record { known = ap Some c.new-loader.ensures.entities; order = store_ordered s c.iter-entities.ensures.ascending c.entities_are_ordered.ensures } in
    c.load_for_request.ensures.exact refl s known c.requires.store

pub returns-clause-memory : goal.returns-clause-memory
returns-clause-memory g c =
    let s = c.args.entities.now in
    let known : IsReported (slicer_state c.new-loader.result) s =
    record { known = ap Some c.new-loader.ensures.entities; order = store_ordered s c.iter-entities.ensures.ascending c.entities_are_ordered.ensures } in
    memory_alone (slicer_state c.new-loader.result) (slicer_state c.load_for_request.new.loader) refl refl c.load_for_request.result
    (c.load_for_request.ensures.honest s known c.requires.store)
