-- What one read or write did.
use Rattle.std.specs.Prelude.{ℕ, ◌+◌, ◌^◌, ◌<◌, ◌≤◌, ◌⊎◌, List, take, Option}
use Rattle.std.specs.Io.KnownBytes.{Keeps, Appends, Consumes, IsAtEnd}
use Rattle.byte_streams.specs.declared.ReadAnswer.{ReadAnswer}
use Rattle.byte_streams.specs.declared.ReadAnswer.TheVariants as read
use Rattle.byte_streams.specs.declared.WriteAnswer.{WriteAnswer}
use Rattle.byte_streams.specs.declared.WriteAnswer.TheVariants as write

-- a count of faults went up, or it stands at the last value of u64
abbrev pub Rose : ℕ → ℕ → Type 0
Rose old new = (old < new) ⊎ (2 ^ 64 ≤ new + 1)

-- a count of faults went up by so many at least, or it stands at the last value of u64
abbrev pub RoseBy : ℕ → ℕ → ℕ → Type 0
RoseBy n old new = (n + old ≤ new) ⊎ (2 ^ 64 ≤ new + 1)

-- a count of faults did not go up, and it is below the last value of u64
abbrev pub IsQuiet : ℕ → ℕ → Type 0
IsQuiet old new = (new ≤ old) × (new + 1 < 2 ^ 64)

-- how many bytes a read gave
abbrev pub bytes_given : ReadAnswer → ℕ
bytes_given (read.Got n) = n
bytes_given read.End = 0
bytes_given read.Failed = 0

-- a read gives at least one byte, and at most as many as the piece has
abbrev pub ReadFits : ReadAnswer → ℕ → Type 0
ReadFits (read.Got n) len = (0 < n) × (n ≤ len)
ReadFits read.End len = Unit {0}
ReadFits read.Failed len = Unit {0}

-- a read gives the next bytes that are left; the end comes only where none is left; a failed read takes none
abbrev pub Reads : Option (List ℕ) → Option (List ℕ) → ReadAnswer → List ℕ → Type 0
Reads old new (read.Got n) piece = Consumes old new (take n piece)
Reads old new read.End piece = Keeps old new × IsAtEnd new
Reads old new read.Failed piece = Keeps old new

-- a write takes at least one byte, and at most as many as the piece has
abbrev pub WriteFits : WriteAnswer → ℕ → Type 0
WriteFits (write.Took n) len = (0 < n) × (n ≤ len)
WriteFits write.Failed len = Unit {0}

-- a write appends what it took; a failed one appends nothing
abbrev pub Writes : Option (List ℕ) → Option (List ℕ) → WriteAnswer → List ℕ → Type 0
Writes old new (write.Took n) piece = Appends old new (take n piece)
Writes old new write.Failed piece = Keeps old new
