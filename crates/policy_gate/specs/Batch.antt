-- What is written of the answers to many requests over one store.
use Rattle.std.specs.Prelude.{ℕ, List, []}
use Rattle.conformance.specs.Written.{request_message}
use Rattle.json_response.specs.SliceJson.{response_text}
use Rattle.entity_manifest.specs.declared.answer.BatchAnswer.{BatchAnswer}
use Rattle.entity_manifest.specs.declared.answer.BatchAnswer.TheVariants.{Partial, Refused, Loading, Decided}
use Rattle.policy_gate.specs.Answer.{partial_message, refused_line}

-- what a request reads was there: the store is in memory
abbrev pub IsReportedOfStore : BatchAnswer → Type 0
IsReportedOfStore (Loading e) = ⊥
IsReportedOfStore a = Unit {0}

-- the line on an answer
abbrev pub line_on : BatchAnswer → List ℕ
line_on Partial = refused_line partial_message
line_on (Refused e) = refused_line (request_message e)
line_on (Loading e) = []
line_on (Decided r) = response_text r
