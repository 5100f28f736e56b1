-- What a whole run does.
use Rattle.std.specs.Prelude.{◌≡◌, ℕ, ◌+◌, ◌<◌, ◌≤◌, ◌⊎◌, List, length, map, take, Option, Some, None, IsSome, String, codes, string_bytes}
use Rattle.std.specs.declared.alloc.Global.{Global}
use Rattle.std.specs.declared.vec.Vec.{Vec}
use Rattle.std.specs.Io.KnownBytes.{Keeps, Appends}
use Rattle.byte_streams.specs.Document.{document_limit, TakesTooMany, WasRead}
use Rattle.byte_streams.specs.State.{SinkState, SourceState}
use Rattle.byte_streams.specs.Steps.{IsQuiet, Rose}
use Rattle.policy_gate.specs.Answer.{IsAnswer}
use Rattle.policy_gate.specs.Command.{command_of, own_document}
use Rattle.policy_gate.specs.Reply.{Answer, answer}
use Rattle.policy_gate.specs.Status.{after_fault}
use Rattle.policy_gate.specs.declared.command.Command.{Command}
use Rattle.policy_gate.specs.declared.status.Status.{Status}
use Rattle.policy_gate.specs.declared.status.Status.TheVariants.{Done, Findings, Usage, Document, Request, Store, PartialRequest, ReadFault, WriteFault, OutOfMemory, TooLong, Edit}

-- for words that are no command
abbrev pub usage : Answer
usage = answer Usage (codes "usage: check | level N | request | manifest | slice | decide | sample SEED SIZE | batch | live | review | list LIMIT [TYPE EID]\n")

-- for a source that failed before its end
abbrev pub read_fault : Answer
read_fault = answer ReadFault (codes "read fault\n")

-- for a source that gave more than a document may have
abbrev pub too_long : Answer
too_long = answer TooLong (codes "document: more than 16777216 bytes\n")

-- what is expected where a document is read: what the command asks for its bytes; or the source failed, or gave
-- too many bytes
abbrev pub IsExpectedAfterReading : Command → SourceState → SourceState → Answer → Type 0
IsExpectedAfterReading command source source' a =
    ((bytes : List ℕ) × WasRead source source' bytes × IsAnswer command bytes a)
    ⊎ (((a ≡ read_fault) × Rose source.faults source'.faults
    × (source'.taken ≤ source.taken + document_limit))
    ⊎ ((a ≡ too_long) × TakesTooMany source source'))

-- what is expected for a command that has a document of its own: the source is left alone; the others read one
abbrev pub IsExpectedFor : Option (List ℕ) → Command → SourceState → SourceState → Answer → Type 0
IsExpectedFor None command source source' a = IsExpectedAfterReading command source source' a
IsExpectedFor (Some bytes) command source source' a = (source' ≡ source) × IsAnswer command bytes a

-- what is expected for the words; where they are no command the source is left alone
abbrev pub IsExpected : Option Command → SourceState → SourceState → Answer → Type 0
IsExpected None source source' a = (a ≡ usage) × (source' ≡ source)
IsExpected (Some command) source source' a = IsExpectedFor (own_document command) command source source' a

-- the bytes of the document that a command works on: all that the source gave, or those of its own document
abbrev pub IsGivenBy : Option (List ℕ) → SourceState → SourceState → List ℕ → Type 0
IsGivenBy None source source' bytes = WasRead source source' bytes
IsGivenBy (Some own) source source' bytes = (bytes ≡ own) × (source' ≡ source)

-- the same for a command
abbrev pub IsGiven : Command → SourceState → SourceState → List ℕ → Type 0
IsGiven command source source' bytes = IsGivenBy (own_document command) source source' bytes

-- the command reads a document from the source
abbrev pub Reads : Command → Type 0
Reads command = own_document command ≡ None

-- these bytes are what the command is to work on: what the source has left, where that is no more than a
-- document may have and the source does not fail; or those of its own document
abbrev pub IsToReadBy : Option (List ℕ) → SourceState → SourceState → List ℕ → Type 0
IsToReadBy None source source' bytes =
    (source.left ≡ Some bytes) × (length bytes ≤ document_limit) × IsQuiet source.faults source'.faults
IsToReadBy (Some own) source source' bytes = bytes ≡ own

-- the same for a command
abbrev pub IsToWorkOn : Command → SourceState → SourceState → List ℕ → Type 0
IsToWorkOn command source source' bytes = IsToReadBy (own_document command) source source' bytes

-- the source has more bytes left than a document may have, and does not fail
abbrev pub HasTooMany : SourceState → SourceState → Type 0
HasTooMany source source' = (bytes : List ℕ) × (source.left ≡ Some bytes) × (document_limit < length bytes)
    × IsQuiet source.faults source'.faults

-- all of the answer's text is written, and its status stands; or the sink's count rose, and a prefix of the
-- text is written
abbrev pub Gives : Answer → SinkState → SinkState → Status → Type 0
Gives a sink sink' status = ((status ≡ a.status) × Appends sink.holds sink'.holds a.text)
    ⊎ (Rose sink.faults sink'.faults × (status ≡ after_fault a.status)
    × ((n : ℕ) × Appends sink.holds sink'.holds (take n a.text)))

-- a run gives the answer that is expected; or memory ran out for a command, and nothing is written
abbrev pub Runs : Option Command → SourceState → SourceState → SinkState → SinkState → Status → Type 0
Runs command source source' sink sink' status =
    (IsSome command × (status ≡ OutOfMemory) × Keeps sink.holds sink'.holds)
    ⊎ ((a : Answer) × IsExpected command source source' a × Gives a sink sink' status)

-- the words are a command, the document was read or is its own, and this status is expected for its bytes, with
-- this text
abbrev pub IsExpectedOfDocument : Option Command → SourceState → SourceState → Status → List ℕ → Type 0
IsExpectedOfDocument None source source' status text = ⊥
IsExpectedOfDocument (Some command) source source' status text =
    (bytes : List ℕ) × IsGiven command source source' bytes × IsAnswer command bytes (answer status text)

-- the words are a command that reads a document
abbrev pub IsReader : Option Command → Type 0
IsReader None = ⊥
IsReader (Some command) = Reads command

-- why a run ends with a status
abbrev pub Cause : Option Command → SourceState → SourceState → SinkState → SinkState → Status → Type 0
Cause command source source' sink sink' Done =
    (text : List ℕ) × IsExpectedOfDocument command source source' Done text × Appends sink.holds sink'.holds text
Cause command source source' sink sink' Usage = (command ≡ None) × (source' ≡ source)
Cause command source source' sink sink' Document =
    (text : List ℕ) × IsExpectedOfDocument command source source' Document text
Cause command source source' sink sink' Findings =
    (text : List ℕ) × IsExpectedOfDocument command source source' Findings text
Cause command source source' sink sink' Request =
    (text : List ℕ) × IsExpectedOfDocument command source source' Request text
Cause command source source' sink sink' Store =
    (text : List ℕ) × IsExpectedOfDocument command source source' Store text
Cause command source source' sink sink' PartialRequest =
    (text : List ℕ) × IsExpectedOfDocument command source source' PartialRequest text
Cause command source source' sink sink' ReadFault = IsReader command × Rose source.faults source'.faults
Cause command source source' sink sink' WriteFault = Rose sink.faults sink'.faults
    × ((text : List ℕ) × IsExpectedOfDocument command source source' Done text
    × ((n : ℕ) × Appends sink.holds sink'.holds (take n text)))
Cause command source source' sink sink' OutOfMemory = Keeps sink.holds sink'.holds
Cause command source source' sink sink' TooLong = IsReader command × TakesTooMany source source'
Cause command source source' sink sink' Edit =
    (text : List ℕ) × IsExpectedOfDocument command source source' Edit text

-- what a run is: the command that its words are, if they are one; its source and its sink before and after
-- it; and the status that it ends with
pub record Run : Type 0 where
  pub command : Option Command
  pub source : SourceState
  pub source' : SourceState
  pub sink : SinkState
  pub sink' : SinkState
  pub status : Status

-- the run for these words that found and left a source and a sink so, and ended so
abbrev pub run_of : {S K : Type 0} → (S → SourceState) → (K → SinkState) → Vec (String Global) Global
    → S → S → K → K → Status → Run
run_of of_source of_sink words source source' sink sink' status = record {
  command = command_of (map string_bytes words.items);
  source = of_source source;
  source' = of_source source';
  sink = of_sink sink;
  sink' = of_sink sink';
  status = status;
}

-- the run is of the command, and these are the bytes that it worked on
abbrev pub IsRunOn : Command → List ℕ → Run → Type 0
IsRunOn command bytes run =
    (run.command ≡ Some command) × IsGiven command run.source run.source' bytes

-- the run is of the command, these are the bytes that it is to work on, and neither its source nor its sink
-- fails
abbrev pub IsUndisturbed : Command → List ℕ → Run → Type 0
IsUndisturbed command bytes run = (run.command ≡ Some command)
    × IsToWorkOn command run.source run.source' bytes × IsQuiet run.sink.faults run.sink'.faults

-- all of the answer that is expected for the command and the bytes is written, and its status stands
abbrev pub GivesWhole : Command → List ℕ → Run → Type 0
GivesWhole command bytes run = (text : List ℕ) × IsAnswer command bytes (answer run.status text)
    × Appends run.sink.holds run.sink'.holds text

-- where it is undisturbed, the run gives the whole answer, unless memory ran out
abbrev pub IsExact : Command → List ℕ → Run → Type 0
IsExact command bytes run =
    IsUndisturbed command bytes run → GivesWhole command bytes run ⊎ (run.status ≡ OutOfMemory)
