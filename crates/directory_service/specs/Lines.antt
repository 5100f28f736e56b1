-- What is answered to a line.
use Rattle.std.specs.Prelude.{◌≡◌, ℕ, List, Option, Some, None, String, codes, string_bytes}
use Rattle.std.specs.declared.alloc.Global.{Global}
use Rattle.std.specs.Option.{option_map_or}
use Rattle.byte_streams.specs.Answering.{AreAnswered}
use Rattle.byte_streams.specs.declared.answering.Ended.{Ended}
use Rattle.byte_streams.specs.State.{SinkState}
use Rattle.byte_streams.specs.Steps.{RoseBy}
use Rattle.serde_json.specs.Data.{Data}
use Rattle.json_values.specs.Json.{json_of}
use Rattle.json_document.specs.Request.{request_of}
use Rattle.policy_set.specs.Data.{PolicyData}
use Rattle.policy_set.specs.PolicySet.{PolicySetData}
use Rattle.schema_core.specs.Schema.{SchemaData}
use Rattle.entity_store.specs.declared.request.Request.{Request}
use Rattle.entity_store.specs.Store.{Store}
use Rattle.entity_manifest.specs.Lines.{refused_line}
use Rattle.directory_service.specs.Attempts.{OfStore}
use Rattle.directory_service.specs.Rows.{IsRowAnswer, row_faults, row_line}
use Rattle.directory_service.specs.declared.row_fault.RowAnswer.{RowAnswer}
use Rattle.directory_service.specs.declared.requests.LineRequest.{LineRequest}
use Rattle.directory_service.specs.declared.requests.LineRequest.TheVariants as line

-- what the bytes of a line are: a request, other JSON, or no JSON
abbrev pub request_in : Option Data → LineRequest
request_in None = line.NoJson
request_in (Some v) = option_map_or line.Request (request_of (Some v)) line.NoRequest

abbrev pub line_request : List ℕ → LineRequest
line_request bytes = request_in (json_of bytes)

-- by the store of all rows the text is the line on the response to the line's request; or the line on a
-- fault, with which one is counted; or it says that there is no request
abbrev pub IsRequestLine : SchemaData → List PolicyData → Store → ℕ → LineRequest → List ℕ → Type 0
IsRequestLine schema ps w faults (line.Request q) text =
    (a : RowAnswer) × IsRowAnswer schema ps w q a × (faults ≡ row_faults a) × (text ≡ row_line a)
IsRequestLine schema ps w faults line.NoRequest text =
    (faults ≡ 0) × (text ≡ refused_line (codes "line: no request"))
IsRequestLine schema ps w faults line.NoJson text =
    (faults ≡ 0) × (text ≡ refused_line (codes "line: no JSON"))

-- the same of a line, or of one that is too long
abbrev pub IsLineOn : SchemaData → List PolicyData → Store → ℕ → Option (List ℕ) → List ℕ → Type 0
IsLineOn schema ps w faults (Some bytes) text = IsRequestLine schema ps w faults (line_request bytes) text
IsLineOn schema ps w faults None text =
    (faults ≡ 0) × (text ≡ refused_line (codes "line: more than 16777216 bytes"))

-- by the store that is known, where it conforms, the text is the line on the response to the request, or on a
-- fault; and a count rose by what the answer counts
abbrev pub IsRequestAnswered :
    SchemaData → List PolicyData → Option Store → Request → ℕ → ℕ → String Global → Type 0
IsRequestAnswered schema ps told q from to text =
    (a : RowAnswer) × OfStore schema told (λ w. IsRowAnswer schema ps w q a)
    × RoseBy (row_faults a) from to × (string_bytes text ≡ row_line a)

-- by the store that is known, where it conforms, the text answers what a line is; and a count rose by the
-- faults of the answer
abbrev pub IsLineAnswered :
    SchemaData → List PolicyData → Option Store → LineRequest → ℕ → ℕ → String Global → Type 0
IsLineAnswered schema ps told r from to text =
    (faults : ℕ) × OfStore schema told (λ w. IsRequestLine schema ps w faults r (string_bytes text))
    × RoseBy faults from to

-- by the store that is known, where it conforms, the lines that were left are answered, one after another
abbrev pub AreLinesAnswered :
    SchemaData → PolicySetData → Option Store → ℕ → ℕ → Option (List ℕ) → SinkState → SinkState → Ended
    → Type 0
AreLinesAnswered schema set told from to left old new e =
    OfStore schema told (λ w. AreAnswered (IsLineOn schema set.policies w) from to left old.holds new.holds e)
