use Rattle.std.proofs.Common.{true, inl}
use Rattle.entity_loader.specs.Answers.{IsHonestList}
use Rattle.plain_lemmas.proofs.Lists.{zip_length}
use Rattle.entity_loader.proofs.slicer.EntitySlicerEntityLoader.load_ancestors.Goals as goal

pub returns-in-Ok-clause-fit : goal.returns-in-Ok-clause-fit
returns-in-Ok-clause-fit c = inl (zip_length (IsHonestList true c.args.self.now.entities.now) c.args.requests.now.items c.in-Ok.found.items c.in-Ok.ensures)
