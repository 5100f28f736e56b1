-- What reading a line takes of the bytes that are left.
use Rattle.std.specs.Prelude.{◌≡◌, ◌≢◌, ◌≤◌, ◌<◌, ◌&&◌, ◌⊎◌, eqb, ⊤, ℕ, Bool, true, List, [], ◌∷◌, ◌++◌, length, not, Option}
use Rattle.std.specs.Io.KnownBytes.{Consumes, Keeps, IsAtEnd}
use Rattle.byte_streams.specs.declared.reading.TheConstants.{DOCUMENT_LIMIT}
use Rattle.byte_streams.specs.declared.lines.Line.{Line}
use Rattle.byte_streams.specs.declared.lines.Line.TheVariants as line
use Rattle.byte_streams.specs.declared.lines.NextByte.{NextByte}
use Rattle.byte_streams.specs.declared.lines.NextByte.TheVariants as next
use Rattle.byte_streams.specs.declared.pieces.Filled.{Filled}
use Rattle.byte_streams.specs.declared.pieces.Filled.TheVariants as filled

-- none of the bytes is a newline
abbrev pub is_plain : List ℕ → Bool
is_plain [] = true
is_plain (b ∷ bs) = not (eqb b 10) && is_plain bs

-- of what was left the bytes were taken, and the newline that ends them or, where that is none, all
abbrev pub TakesRest : Option (List ℕ) → Option (List ℕ) → List ℕ → Type 0
TakesRest old new bytes =
    (is_plain bytes ≡ true) × (Consumes old new (bytes ++ (10 ∷ [])) ⊎ (Consumes old new bytes × IsAtEnd new))

-- they are a line: where no newline ends them there is a byte
abbrev pub TakesLine : Option (List ℕ) → Option (List ℕ) → List ℕ → Type 0
TakesLine old new bytes =
    (is_plain bytes ≡ true)
    × (Consumes old new (bytes ++ (10 ∷ [])) ⊎ (Consumes old new bytes × IsAtEnd new × (bytes ≢ [])))

-- the next line is this; of a line that is too long, that is its length
abbrev pub IsNext : Option (List ℕ) → Option (List ℕ) → Line → Type 0
IsNext old new (line.Text v) = (length v.items ≤ DOCUMENT_LIMIT) × TakesLine old new v.items
IsNext old new line.TooLong = (bytes : List ℕ) × (DOCUMENT_LIMIT < length bytes) × TakesLine old new bytes
IsNext old new line.End = Keeps old new × IsAtEnd new
IsNext old new line.Failed = ⊤
IsNext old new line.OutOfMemory = ⊤

-- the rest of a line that is too long is passed over
abbrev pub IsRest : Option (List ℕ) → Option (List ℕ) → Line → Type 0
IsRest old new (line.Text v) = ⊥
IsRest old new line.TooLong = (bytes : List ℕ) × TakesRest old new bytes
IsRest old new line.End = ⊥
IsRest old new line.Failed = ⊤
IsRest old new line.OutOfMemory = ⊤

-- a byte is the next one that is left, and no newline, or a newline is
abbrev pub GivesByte : Option (List ℕ) → Option (List ℕ) → NextByte → Type 0
GivesByte old new (next.Byte b) = (¬ (b ≡ 10)) × Consumes old new (b ∷ [])
GivesByte old new next.Newline = Consumes old new (10 ∷ [])
GivesByte old new next.End = Keeps old new × IsAtEnd new
GivesByte old new next.Failed = ⊤
GivesByte old new next.OutOfMemory = ⊤

-- a byte, known from a newline
abbrev pub IsReported : ℕ → NextByte → Type 0
IsReported byte (next.Byte b) = (¬ (b ≡ 10)) × (b ≡ byte)
IsReported byte next.Newline = byte ≡ 10
IsReported byte next.End = ⊥
IsReported byte next.Failed = ⊥
IsReported byte next.OutOfMemory = ⊥

-- a piece is filled with the next bytes that are left
abbrev pub IsFilled : Option (List ℕ) → Option (List ℕ) → List ℕ → Filled → Type 0
IsFilled old new bytes filled.Got = (bytes ≢ []) × Consumes old new bytes
IsFilled old new bytes filled.End = (bytes ≡ []) × Keeps old new × IsAtEnd new
IsFilled old new bytes filled.Failed = ⊤
IsFilled old new bytes filled.OutOfMemory = ⊤

-- what comes behind the bytes of a line that is as long as may be
abbrev pub IsEnd : Option (List ℕ) → Option (List ℕ) → List ℕ → Line → Type 0
IsEnd old new prefix (line.Text v) =
    (v.items ≡ prefix) × (Consumes old new (10 ∷ []) ⊎ (Keeps old new × IsAtEnd new))
IsEnd old new prefix line.TooLong = (bytes : List ℕ) × (bytes ≢ []) × TakesRest old new bytes
IsEnd old new prefix line.End = ⊥
IsEnd old new prefix line.Failed = ⊤
IsEnd old new prefix line.OutOfMemory = ⊤

-- the end of the source ends a line where it has bytes
abbrev pub IsLast : List ℕ → Line → Type 0
IsLast bytes (line.Text v) = (v.items ≡ bytes) × (bytes ≢ [])
IsLast bytes line.TooLong = ⊥
IsLast bytes line.End = bytes ≡ []
IsLast bytes line.Failed = ⊥
IsLast bytes line.OutOfMemory = ⊥
