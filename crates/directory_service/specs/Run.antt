-- What a run writes, and what it says where it is done.
use Rattle.std.specs.Prelude.{◌≡◌, ◌⊎◌, ◌≤◌, ℕ, List, ◌++◌, length, take, string_bytes, Option, Some, None, Result, Ok, Err, IfSome, codes, decimal}
use Rattle.std.specs.declared.alloc.AllocError.{AllocError}
use Rattle.std.specs.declared.alloc.Global.{Global}
use Rattle.std.specs.declared.vec.Vec.{Vec}
use Rattle.std.specs.Io.KnownBytes.{Appends}
use Rattle.byte_streams.specs.Document.{document_limit}
use Rattle.byte_streams.specs.State.{SinkState, SourceState}
use Rattle.byte_streams.specs.Steps.{Rose}
use Rattle.conformance.specs.StoreRules.{first_store_fault}
use Rattle.json_document.specs.declared.document.Document.{Document}
use Rattle.directory_service.specs.Documents.{IsReading}
use Rattle.directory_service.specs.Status.{after_fault}
use Rattle.directory_service.specs.declared.reply.Reply.{Reply}
use Rattle.directory_service.specs.declared.status.Status.{Status}
use Rattle.directory_service.specs.declared.status.Status.TheVariants as status

-- what is known of words that are no command
abbrev pub usage : List ℕ
usage = codes "usage: import DB | check DB | decide DB [DOCUMENT]\n"

-- all of the text is written, and the status stands; or the sink's count rose, and a front of it is written
abbrev pub Gives : Status → List ℕ → SinkState → SinkState → Status → Type 0
Gives due text sink sink' ended = ((ended ≡ due) × Appends sink.holds sink'.holds text)
    ⊎ (Rose sink.faults sink'.faults × (ended ≡ after_fault due)
    × ((n : ℕ) × Appends sink.holds sink'.holds (take n text)))

-- the reply's text is written, and it says that the work is done
abbrev pub IsDone : Result Reply AllocError → SinkState → SinkState → Type 0
IsDone (Ok r) sink sink' = (r.status ≡ status.Done) × Appends sink.holds sink'.holds (string_bytes r.text)
IsDone (Err e) sink sink' = ⊥

-- the bytes are all that a source has left, where it says that, and no more than a document may have
abbrev pub AreAll : Option (List ℕ) → List ℕ → Type 0
AreAll left bytes = (length bytes ≤ document_limit) × IfSome left (λ all. all ≡ bytes)

-- the reply says that the work is not done, though there was a command
abbrev pub IsRefusal : Reply → Type 0
IsRefusal r = ¬ (r.status ≡ status.Done) × ¬ (r.status ≡ status.Usage)

-- bytes that were read are all that was left; else the work is not done
abbrev pub AreBytesOf : Option (List ℕ) → Result (Vec ℕ Global) Reply → Type 0
AreBytesOf left (Ok bytes) = AreAll left bytes.items
AreBytesOf left (Err r) = IsRefusal r

-- all that is left are the bytes of the document
abbrev pub IsDocumentLeft : Option (List ℕ) → Document → Type 0
IsDocumentLeft left d = (bytes : List ℕ) × AreAll left bytes × IsReading bytes (Ok d)

-- a document that was read is that of all that was left; else the work is not done
abbrev pub IsReadOf : Option (List ℕ) → Result Document Reply → Type 0
IsReadOf left (Ok d) = IsDocumentLeft left d
IsReadOf left (Err r) = IsRefusal r

-- the same of a source, where there is one
abbrev pub IsReadFrom : Option SourceState → Result Document Reply → Type 0
IsReadFrom (Some s) read = IsReadOf s.left read
IsReadFrom None (Ok d) = ⊥
IsReadFrom None (Err r) = IsRefusal r

-- the document's store breaks no rule of its schema, and the text says how many entities it has
abbrev pub IsImported : Document → List ℕ → Type 0
IsImported d text = (first_store_fault d.schema d.entities ≡ None)
    × (text ≡ codes "imported " ++ (decimal (length d.entities) ++ codes "\n"))

-- the text says that a store conforms
abbrev pub SaysConforms : Document → List ℕ → Type 0
SaysConforms d text = text ≡ codes "conforms\n"

-- the reply is right of the document that is left of a source, where it says that the work is done
abbrev pub IsRightOf : (Document → List ℕ → Type 0) → Option (List ℕ) → Reply → Type 0
IsRightOf Says left r =
    r.status ≡ status.Done → (d : Document) × IsDocumentLeft left d × Says d (string_bytes r.text)

-- what is left of a source is a document, and a text that is right of it is written
abbrev pub AnswersDocument : (Document → List ℕ → Type 0) → Option (List ℕ) → SinkState → SinkState → Type 0
AnswersDocument Says left sink sink' = (d : Document) × (text : List ℕ) × IsDocumentLeft left d × Says d text
    × Appends sink.holds sink'.holds text
