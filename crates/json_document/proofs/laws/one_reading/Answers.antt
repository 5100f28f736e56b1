use Rattle.json_document.proofs.OneReading.{one_reading}
use Rattle.json_document.proofs.laws.one_reading.Goals as goal

pub returns : goal.returns
returns c = one_reading
