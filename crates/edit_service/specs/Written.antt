-- What is written, and how a run ends then.
use Rattle.std.specs.Prelude.{◌≡◌, ◌⊎◌, ℕ, List, take, string_bytes, Result, Ok, Err}
use Rattle.std.specs.declared.alloc.AllocError.{AllocError}
use Rattle.std.specs.Io.KnownBytes.{Appends, Keeps}
use Rattle.byte_streams.specs.State.{SinkState}
use Rattle.byte_streams.specs.Steps.{Rose}
use Rattle.edit_service.specs.Status.{after_fault}
use Rattle.edit_service.specs.declared.reply.Reply.{Reply}
use Rattle.edit_service.specs.declared.status.Status.{Status}
use Rattle.edit_service.specs.declared.status.Status.TheVariants as status

-- all of the text is written, and the status stands; or the sink failed, and a prefix of the text is written
abbrev pub Gives : Status → List ℕ → SinkState → SinkState → Status → Type 0
Gives s text sink sink' ended = ((ended ≡ s) × Appends sink.holds sink'.holds text)
    ⊎ (Rose sink.faults sink'.faults × (ended ≡ after_fault s)
    × ((n : ℕ) × Appends sink.holds sink'.holds (take n text)))

-- the reply is given; or there was no memory for one, and nothing is written
abbrev pub Ends : Result Reply AllocError → SinkState → SinkState → Status → Type 0
Ends (Ok r) sink sink' ended = Gives r.status (string_bytes r.text) sink sink' ended
Ends (Err e) sink sink' ended = (ended ≡ status.OutOfMemory) × Keeps sink.holds sink'.holds
