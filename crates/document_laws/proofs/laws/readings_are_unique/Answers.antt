use Rattle.document_laws.proofs.Readings.{unique}
use Rattle.document_laws.proofs.laws.readings_are_unique.Goals as goal

pub returns : goal.returns
returns c = unique
