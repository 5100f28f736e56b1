-- What loaders in memory say.
use Rattle.std.specs.Prelude.{true, Some}
use Rattle.entity_loader.specs.declared.slicer.EntitySlicer.{EntitySlicer}
use Rattle.entity_loader.specs.State.{LoaderState}

-- an exact loader of a store, whose calls never fail
abbrev pub slicer_state : EntitySlicer → LoaderState
slicer_state l = record {
  store = Some l.entities.now;
  exact = true;
  faults = 0;
  strays = 0;
  rounds = l.rounds;
  lists = l.lists;
}
