use Rattle.std.proofs.Common.{true, inl}
use Rattle.entity_loader.specs.Answers.{Fits, IsHonest}
use Rattle.entity_loader.proofs.AnswerSteps.{zip_weaker, honest_fits}
use Rattle.entity_loader.proofs.slicer.EntitySlicerEntityLoader.load_entities.Goals as goal

pub returns-in-Ok-clause-fit : goal.returns-in-Ok-clause-fit
returns-in-Ok-clause-fit c =
    let s = c.args.self.now.entities.now in
    inl (zip_weaker (IsHonest true s) Fits (honest_fits true s) c.args.requests.now.items c.in-Ok.found.items c.in-Ok.ensures)
