-- What is answered to the lines behind the policies.
use Rattle.std.specs.Prelude.{◌≡◌, ℕ, List, Option, Some, Result, Ok, Err}
use Rattle.byte_streams.specs.Answering.{AreAnswered}
use Rattle.byte_streams.specs.Lines.{TakesLine}
use Rattle.byte_streams.specs.declared.answering.Ended.TheVariants as ended
use Rattle.byte_streams.specs.State.{SinkState, SourceState}
use Rattle.directory_service.specs.Accepted.{IsAccepted}
use Rattle.directory_service.specs.Attempts.{OfStore}
use Rattle.directory_service.specs.Lines.{IsLineOn}
use Rattle.entity_files.specs.Rows.{known_store}
use Rattle.entity_files.specs.Table.{IsReady, Continues}
use Rattle.json_document.specs.declared.document.Document.{Document}
use Rattle.sqlite.specs.State.{State}
use Rattle.directory_service.specs.Documents.{IsReading}
use Rattle.directory_service.specs.Run.{IsDocumentLeft, IsRefusal}
use Rattle.directory_service.specs.declared.reply.Reply.{Reply}

-- the next line that is left is the document, and this is left behind it
abbrev pub IsFirstDocument : Option (List ℕ) → Option (List ℕ) → Document → Type 0
IsFirstDocument left rest d = (line : List ℕ) × TakesLine left rest line × IsReading line (Ok d)

-- a document that was read is that of the first line; else the work is not done
abbrev pub IsReadFirst : Option (List ℕ) → Option (List ℕ) → Result Document Reply → Type 0
IsReadFirst left rest (Ok d) = IsFirstDocument left rest d
IsReadFirst left rest (Err r) = IsRefusal r

-- Each line that is left has its answer, by the store of the rows that are known at the end, and were known
-- at the beginning: where it conforms to the document's schema, the lines on the responses on it, or on
-- faults. The database can be used again.
abbrev pub AreDecided : Document → State → State → Option (List ℕ) → SinkState → SinkState → Type 0
AreDecided d first last left sink sink' =
    IsReady last × Continues (known_store first) (known_store last)
    × OfStore d.schema (known_store last) (λ w. (faults : ℕ)
    × AreAnswered (IsLineOn d.schema d.policies.policies w) 0 faults left sink.holds sink'.holds ended.Done)

-- the first line is a document whose policies are accepted
abbrev pub Decides : Option (List ℕ) → Type 0
Decides left =
    (d : Document) × (rest : Option (List ℕ)) × IsFirstDocument left rest d × IsAccepted d.schema d.policies

-- the document is all that was left of a source of its own, and its policies are accepted
abbrev pub DecidesBy : Option SourceState → Type 0
DecidesBy given =
    (own : SourceState) × (d : Document) × (given ≡ Some own) × IsDocumentLeft own.left d × IsAccepted d.schema d.policies
