-- What a run answers.
use Rattle.std.specs.Prelude.{◌≡◌, ◌⊎◌, ◌<◌, ◌≤◌, ◌++◌, ℕ, List, length, string_bytes, Some, Err, Ok, codes}
use Rattle.std.specs.Io.KnownBytes.{Appends, Keeps}
use Rattle.byte_streams.specs.Document.{document_limit, TakesTooMany, WasRead}
use Rattle.byte_streams.specs.State.{SourceState, SinkState}
use Rattle.byte_streams.specs.Steps.{IsQuiet, Rose}
use Rattle.finding_messages.specs.Written.{findings_text}
use Rattle.policy_set.specs.PolicySet.{PolicySetData}
use Rattle.policy_validate.specs.Accepted.{IsAccepted, findings_of}
use Rattle.schema_core.specs.EnvData.{unlinked_envs}
use Rattle.schema_core.specs.Schema.{SchemaData}
use Rattle.json_document.specs.PlaceText.{place_text}
use Rattle.json_document.specs.Reading.{IsReadAs as IsDocumentReadAs}
use Rattle.json_document.specs.declared.document.Document.{Document}
use Rattle.json_document.specs.declared.place.Place.{Place}
use Rattle.json_document.specs.declared.shape.Shape.TheVariants.{Whole}
use Rattle.policy_risks.specs.declared.endings.Assumed.{Assumed}
use Rattle.edit_service.specs.Changes.{AllHold}
use Rattle.edit_service.specs.Documents.{IsReadAs}
use Rattle.edit_service.specs.Faults.{fault_text}
use Rattle.edit_service.specs.Forbids.{SaysForbids}
use Rattle.edit_service.specs.Texts.{edit_text}
use Rattle.edit_service.specs.Written.{Gives}
use Rattle.edit_service.specs.declared.change.Change.{Change}
use Rattle.edit_service.specs.declared.words.Command.{Command}
use Rattle.edit_service.specs.declared.words.Command.TheVariants.{Compare, FailOpen}
use Rattle.edit_service.specs.declared.document.EditDocument.{EditDocument}
use Rattle.edit_service.specs.declared.fault.EditFault.{EditFault}
use Rattle.edit_service.specs.declared.reply.Reply.{Reply}
use Rattle.edit_service.specs.declared.status.Status.{Status}
use Rattle.edit_service.specs.declared.status.Status.TheVariants as status

-- what is written for words that are no command
abbrev pub usage : List ℕ
usage = codes "usage: compare | fail-open [stored]\n"

-- the text has a line for each environment of the schema, and what it claims of the edit there holds
abbrev pub SaysChanges : EditDocument → List ℕ → Type 0
SaysChanges d text = (changes : List Change)
    × AllHold d.schema d.before.policies d.policies.policies (unlinked_envs d.schema) changes
    × (text ≡ edit_text (unlinked_envs d.schema) changes)

-- both sets of policies are accepted
abbrev pub AreAccepted : EditDocument → Type 0
AreAccepted d = IsAccepted d.schema d.before × IsAccepted d.schema d.policies

-- both sets are accepted, and the text says what is found of the edit
abbrev pub IsCompared : EditDocument → List ℕ → Type 0
IsCompared d text = AreAccepted d × SaysChanges d text

-- the set is not accepted, and the text is what is found of it
abbrev pub SaysFindings : SchemaData → PolicySetData → List ℕ → Type 0
SaysFindings schema set text = ¬ IsAccepted schema set × (text ≡ findings_text (findings_of schema set))

-- the policies before are not accepted, and the findings on them are written below a line that says so; or
-- those are, the policies after are not, and the findings on these are written
abbrev pub IsRefused : EditDocument → List ℕ → Type 0
IsRefused d text = ((found : List ℕ) × SaysFindings d.schema d.before found × (text ≡ codes "before:\n" ++ found))
    ⊎ (IsAccepted d.schema d.before × SaysFindings d.schema d.policies text)

-- the answer to a document, by its status
abbrev pub IsAnswerOn : EditDocument → Status → List ℕ → Type 0
IsAnswerOn d status.Done text = IsCompared d text
IsAnswerOn d status.Findings text = IsRefused d text
IsAnswerOn d s text = ⊥

abbrev pub IsReplyOn : EditDocument → Reply → Type 0
IsReplyOn d r = IsAnswerOn d r.status (string_bytes r.text)

-- the answer to bytes: that they are no document, and why; or the answer to the document that they are
abbrev pub IsAnswerToBytes : List ℕ → Status → List ℕ → Type 0
IsAnswerToBytes bytes status.Document text =
    (e : EditFault) × IsReadAs bytes (Err e) × (text ≡ fault_text e ++ codes "\n")
IsAnswerToBytes bytes s text = (d : EditDocument) × IsReadAs bytes (Ok d) × IsAnswerOn d s text

-- the answer to bytes that are asked about for their forbids: where they are no document; or the findings on the
-- document's policies, or the lines on its forbids
abbrev pub IsForbidsAnswerOn : Assumed → Document → Status → List ℕ → Type 0
IsForbidsAnswerOn a d status.Done text = IsAccepted d.schema d.policies × SaysForbids a d text
IsForbidsAnswerOn a d status.Findings text = SaysFindings d.schema d.policies text
IsForbidsAnswerOn a d s text = ⊥

abbrev pub IsForbidsAnswerTo : Assumed → List ℕ → Status → List ℕ → Type 0
IsForbidsAnswerTo a bytes status.Document text =
    (p : Place) × IsDocumentReadAs Whole bytes (Err p) × (text ≡ place_text p ++ codes "\n")
IsForbidsAnswerTo a bytes s text =
    (d : Document) × IsDocumentReadAs Whole bytes (Ok d) × IsForbidsAnswerOn a d s text

-- the answer to bytes, by the command
abbrev pub answer_of : Command → List ℕ → Status → List ℕ → Type 0
answer_of Compare = IsAnswerToBytes
answer_of (FailOpen a) = IsForbidsAnswerTo a

-- ---- a run, by what is answered to bytes

module _ (Answer : List ℕ → Status → List ℕ → Type 0) where
  -- the answer to what a source gives: that a read failed, that there are too many bytes, or the answer to all
  -- the bytes that it has left
  abbrev pub IsAnswerTo : SourceState → SourceState → Status → List ℕ → Type 0
  IsAnswerTo old new status.ReadFault text = Rose old.faults new.faults × (text ≡ codes "read fault\n")
  IsAnswerTo old new status.TooLong text =
      TakesTooMany old new × (text ≡ codes "document: more than 16777216 bytes\n")
  IsAnswerTo old new s text = (bytes : List ℕ) × WasRead old new bytes × Answer bytes s text

  -- memory ran out, and nothing is written; or the answer is written, up to a failing write
  abbrev pub IsAnsweredBy : SourceState → SourceState → SinkState → SinkState → Status → Type 0
  IsAnsweredBy old new sink sink' ended =
      ((ended ≡ status.OutOfMemory) × Keeps sink.holds sink'.holds)
      ⊎ ((s : Status) × (text : List ℕ) × IsAnswerTo old new s text × Gives s text sink sink' ended)

abbrev pub IsAnswered : SourceState → SourceState → SinkState → SinkState → Status → Type 0
IsAnswered = IsAnsweredBy IsAnswerToBytes

-- the bytes that were read are a document, and a text is written that says what its edit changes
abbrev pub WritesCompared : SourceState → SourceState → SinkState → SinkState → Type 0
WritesCompared old new sink sink' = (bytes : List ℕ) × (text : List ℕ) × WasRead old new bytes
    × ((d : EditDocument) × IsReadAs bytes (Ok d) × IsCompared d text) × Appends sink.holds sink'.holds text

-- these are the bytes that a source has left, it does not fail, and nor does the sink
pub record IsUndisturbed (old new : SourceState) (sink sink' : SinkState) (bytes : List ℕ) : Type 0 where
  pub left : old.left ≡ Some bytes
  pub reads : IsQuiet old.faults new.faults
  pub writes : IsQuiet sink.faults sink'.faults

-- the run ends so, or memory ran out
abbrev pub IsUnlessOutOfMemory : Status → Status → Type 0
IsUnlessOutOfMemory ended s = (ended ≡ s) ⊎ (ended ≡ status.OutOfMemory)

-- where nothing fails, the answer to the bytes is written, and the status is that of the answer
abbrev pub IsExactBy : (List ℕ → Status → List ℕ → Type 0) →
    SourceState → SourceState → SinkState → SinkState → Status → Type 0
IsExactBy Answer old new sink sink' ended = (bytes : List ℕ) → IsUndisturbed old new sink sink' bytes →
    length bytes ≤ document_limit →
    ((text : List ℕ) × Answer bytes ended text × Appends sink.holds sink'.holds text)
    ⊎ (ended ≡ status.OutOfMemory)

abbrev pub IsExact : SourceState → SourceState → SinkState → SinkState → Status → Type 0
IsExact = IsExactBy IsAnswerToBytes

-- where nothing fails, more bytes than a document may have are too many
abbrev pub ReportsTooMany : SourceState → SourceState → SinkState → SinkState → Status → Type 0
ReportsTooMany old new sink sink' ended = (bytes : List ℕ) → IsUndisturbed old new sink sink' bytes →
    document_limit < length bytes → IsUnlessOutOfMemory ended status.TooLong

-- where nothing fails and the bytes are a document whose two sets are accepted, the edit is compared
abbrev pub IsComplete : SourceState → SourceState → SinkState → SinkState → Status → Type 0
IsComplete old new sink sink' ended = (bytes : List ℕ) → IsUndisturbed old new sink sink' bytes →
    length bytes ≤ document_limit → (d : EditDocument) → IsReadAs bytes (Ok d) → AreAccepted d →
    IsUnlessOutOfMemory ended status.Done

-- ---- forbids

-- the bytes that were read are a document whose policies are accepted, and a text is written that has a line for
-- each forbid
abbrev pub WritesForbids : Assumed → SourceState → SourceState → SinkState → SinkState → Type 0
WritesForbids a old new sink sink' = (bytes : List ℕ) × (text : List ℕ) × WasRead old new bytes
    × ((d : Document) × IsDocumentReadAs Whole bytes (Ok d) × IsAccepted d.schema d.policies × SaysForbids a d text)
    × Appends sink.holds sink'.holds text

abbrev pub AreForbidsAnswered : Assumed → SourceState → SourceState → SinkState → SinkState → Status → Type 0
AreForbidsAnswered a = IsAnsweredBy (IsForbidsAnswerTo a)

abbrev pub AreForbidsExact : Assumed → SourceState → SourceState → SinkState → SinkState → Status → Type 0
AreForbidsExact a = IsExactBy (IsForbidsAnswerTo a)

-- where nothing fails and the bytes are a document whose policies are accepted, its forbids are looked at
abbrev pub AreForbidsComplete : SourceState → SourceState → SinkState → SinkState → Status → Type 0
AreForbidsComplete old new sink sink' ended = (bytes : List ℕ) → IsUndisturbed old new sink sink' bytes →
    length bytes ≤ document_limit → (d : Document) → IsDocumentReadAs Whole bytes (Ok d) →
    IsAccepted d.schema d.policies → IsUnlessOutOfMemory ended status.Done
