use Rattle.document_laws.proofs.Document.{document_of_sample, sample_is_read, sample_keeps_rules}
use Rattle.document_laws.proofs.Read.{value_of_sample, sample_is_json}
use Rattle.document_laws.proofs.sample_laws.samples_are_sound.Goals as goal

pub returns : goal.returns
returns c = λ seed size small. record {
  value = value_of_sample seed size;
  document = document_of_sample seed size;
  is_json = sample_is_json seed size small;
  is_read = sample_is_read seed size small;
  keeps_rules = sample_keeps_rules seed size;
}
