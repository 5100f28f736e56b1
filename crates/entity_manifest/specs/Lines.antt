-- What is written of answers.
use Rattle.std.specs.Prelude.{◌++◌, ℕ, List, codes}
use Rattle.serde_json.specs.Data.{Data, object, string, member, no_members}
use Rattle.serde_json.specs.Written.{compact_text}
use Rattle.json_response.specs.SliceJson.{response_text}
use Rattle.conformance.specs.Written.{request_message}
use Rattle.entity_loading.specs.declared.error.EntitySliceError.{EntitySliceError}
use Rattle.entity_loading.specs.declared.error.EntitySliceError.TheVariants as error
use Rattle.entity_manifest.specs.declared.answer.BatchAnswer.{BatchAnswer}
use Rattle.entity_manifest.specs.declared.answer.BatchAnswer.TheVariants.{Partial, Refused, Loading, Decided}

-- why there is no response
abbrev pub refused_json : List ℕ → Data
refused_json message = object (member (codes "refused") (string message) no_members)

-- its JSON without spaces, and a newline
unfoldable pub refused_line : List ℕ → List ℕ
refused_line message = compact_text (refused_json message) ++ codes "\n"

-- what is said where an entry of a request is not known
abbrev pub partial_message : List ℕ
partial_message = codes "entity slicing requires a fully concrete request. Got a partial request"

-- what is said where what a request reads was not loaded
abbrev pub fault_message : EntitySliceError → List ℕ
fault_message error.LoaderFault = codes "the loader failed"
fault_message (error.IncompatibleEntityManifest e) =
    codes "the entity manifest does not fit a value that it reaches"
fault_message e = codes "the loader's answers do not agree"

-- the line on an answer
abbrev pub line_on : BatchAnswer → List ℕ
line_on Partial = refused_line partial_message
line_on (Refused e) = refused_line (request_message e)
line_on (Loading e) = refused_line (fault_message e)
line_on (Decided r) = response_text r
