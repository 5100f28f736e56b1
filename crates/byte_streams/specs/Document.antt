-- What reading a whole document took from a source.
use Rattle.std.specs.Prelude.{◌≡◌, ℕ, ◌+◌, ◌≤◌, List, length}
use Rattle.std.specs.Io.KnownBytes.{Consumes, IsAtEnd}
use Rattle.byte_streams.specs.State.{SourceState}
use Rattle.byte_streams.specs.declared.reading.ReadError.{ReadError}
use Rattle.byte_streams.specs.declared.reading.ReadError.TheVariants as error

-- how many bytes a document may have: 16 MiB
abbrev pub document_limit : ℕ
document_limit = 16777216

-- these bytes were taken and no others, from the start of what was left where the source says it
abbrev pub Takes : SourceState → SourceState → List ℕ → Type 0
Takes old new bytes = (new.taken ≡ old.taken + length bytes) × Consumes old.left new.left bytes

-- these bytes are the whole document: they were taken up to the end, and are no more than a document may have
abbrev pub WasRead : SourceState → SourceState → List ℕ → Type 0
WasRead old new bytes = (length bytes ≤ document_limit) × Takes old new bytes × IsAtEnd new.left

-- at most one byte more was taken than a document may have
abbrev pub TakesFew : SourceState → SourceState → Type 0
TakesFew old new = (bytes : List ℕ) × (length bytes ≤ document_limit + 1) × Takes old new bytes

-- one byte more was taken than a document may have
abbrev pub TakesTooMany : SourceState → SourceState → Type 0
TakesTooMany old new = (bytes : List ℕ) × (length bytes ≡ document_limit + 1) × Takes old new bytes

-- how many bytes were taken where no document was read, by the error
abbrev pub StopsAfter : ReadError → ℕ → Type 0
StopsAfter error.Fault count = count ≤ document_limit
StopsAfter error.TooLong count = count ≡ document_limit + 1
StopsAfter error.OutOfMemory count = count ≤ document_limit + 1
