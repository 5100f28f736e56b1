use Rattle.std.proofs.Common.{take}
use Rattle.entity_loader.specs.State.{Continues}
use Rattle.entity_manifest.specs.Answers.{AreLoaderAnswers}
use Rattle.entity_manifest.proofs.decisions.answers_by.Given as goal

abbrev pub invariant-loop-request : goal.invariant-loop-request
invariant-loop-request g l = record {
  goes_on : Continues (g.D.EntityLoader.state l.fn.loader) (g.D.EntityLoader.state l.loader);
  answers : AreLoaderAnswers l.schema l.policies.policies (g.D.EntityLoader.state l.fn.loader) (take l.request-index l.request-items)
      l.answers.items (g.D.EntityLoader.state l.loader);
}
