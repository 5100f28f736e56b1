use Rattle.table_loader.proofs.Answers.{honest}
use Rattle.table_loader.proofs.laws.row_answers_are_honest.Goals as goal

pub returns : goal.returns
returns c = honest
