use Rattle.std.proofs.Common.{◌≡◌, Bool, ◌||◌}
use Rattle.std.specs.List.{list_any}
use Rattle.entity_loading.specs.declared.place.Place.{Place}
use Rattle.entity_loading.proofs.rounds.note.Given as goal

abbrev pub invariant-loop-place : goal.invariant-loop-place
invariant-loop-place l = (f : Place → Bool) → (list_any f l.asked.keys || list_any f l.place-iterator) ≡ (list_any f l.fn.asked.keys || list_any f l.pending.keys)
