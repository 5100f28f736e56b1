use Rattle.std.proofs.Common.{sym}
use Rattle.entity_loading.proofs.PlaceSteps.{placed}
use Rattle.entity_loading.proofs.place.ask.Goals as goal

pub returns : goal.returns
returns c = rw (sym c.in_ok-uid.ensures) (placed c.args.places.now.keys _ c.insert.new.self.keys c.in_ok-insert.ensures.keys)
