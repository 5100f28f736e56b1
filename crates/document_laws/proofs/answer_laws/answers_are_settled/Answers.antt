use Rattle.document_laws.proofs.Settled.{settled}
use Rattle.document_laws.proofs.answer_laws.answers_are_settled.Goals as goal

pub returns : goal.returns
returns c = settled c.manifests_are_settled.ensures
