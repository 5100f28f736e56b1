-- What is written where the lines of a source are answered, one after another.
use Rattle.std.specs.Prelude.{◌≡◌, ◌≤◌, ◌<◌, ◌+◌, eqb, if◌then◌else◌, ℕ, List, [], ◌∷◌, ◌++◌, length, take, string_bytes, Option, Some, None, Result, Ok, Err, String}
use Rattle.std.specs.declared.alloc.AllocError.{AllocError}
use Rattle.std.specs.declared.alloc.Global.{Global}
use Rattle.std.specs.List.{concat}
use Rattle.std.specs.Io.KnownBytes.{Appends, Keeps, IsAtEnd}
use Rattle.byte_streams.specs.Steps.{RoseBy}
use Rattle.byte_streams.specs.declared.reading.TheConstants.{DOCUMENT_LIMIT}
use Rattle.byte_streams.specs.Lines.{TakesLine}
use Rattle.byte_streams.specs.declared.answering.Ended.{Ended}
use Rattle.byte_streams.specs.declared.answering.Ended.TheVariants as ended

-- the byte at the start of the first line
abbrev pub with_byte : ℕ → List (List ℕ) → List (List ℕ)
with_byte b [] = (b ∷ []) ∷ []
with_byte b (l ∷ ls) = (b ∷ l) ∷ ls

-- the lines of the bytes: a newline ends one, and so does the end behind other bytes
abbrev pub lines_of : List ℕ → List (List ℕ)
lines_of [] = []
lines_of (b ∷ bs) = if eqb b 10 then [] ∷ lines_of bs else with_byte b (lines_of bs)

-- the text is an answer to the line, or to one that is too long, of which the bytes are not looked at
abbrev pub Answers : (Option (List ℕ) → List ℕ → Type 0) → List ℕ → List ℕ → Type 0
Answers IsAnswer line text =
    (length line ≤ DOCUMENT_LIMIT → IsAnswer (Some line) text)
    × (DOCUMENT_LIMIT < length line → IsAnswer None text)

-- each line has its text; with the answers so many faults in all are counted
abbrev pub AnswersEach : (ℕ → Option (List ℕ) → List ℕ → Type 0) → ℕ → List (List ℕ) → List (List ℕ) → Type 0
AnswersEach IsAnswer n [] [] = n ≡ 0
AnswersEach IsAnswer n (line ∷ lines) (text ∷ texts) =
    (k : ℕ) × (m : ℕ) × (n ≡ k + m) × Answers (IsAnswer k) line text × AnswersEach IsAnswer m lines texts
AnswersEach IsAnswer n lines texts = ⊥

-- what is left unanswered, and written behind the last answer: nothing; or, where a write failed, a prefix of
-- the next answer
abbrev pub Remains : (Option (List ℕ) → List ℕ → Type 0) → Ended → List (List ℕ) → List ℕ → Type 0
Remains IsAnswer ended.Done rest part = (rest ≡ []) × (part ≡ [])
Remains IsAnswer ended.ReadFault rest part = part ≡ []
Remains IsAnswer ended.OutOfMemory rest part = part ≡ []
Remains IsAnswer ended.WriteFault rest part =
    (line : List ℕ) × (others : List (List ℕ)) × (text : List ℕ) × (n : ℕ)
    × (rest ≡ line ∷ others) × Answers IsAnswer line text × (part ≡ take n text)

-- an answer to each of the first lines of what was left was written, in their order; and a count rose by the
-- faults of all of them at least
abbrev pub AreAnswered :
    (ℕ → Option (List ℕ) → List ℕ → Type 0) → ℕ → ℕ → Option (List ℕ) → Option (List ℕ) → Option (List ℕ)
    → Ended → Type 0
AreAnswered IsAnswer from to left old new e = (bytes : List ℕ) → left ≡ Some bytes →
    (prefix : List (List ℕ)) × (rest : List (List ℕ)) × (texts : List (List ℕ)) × (part : List ℕ)
    × (n : ℕ) × (k : ℕ) × (lines_of bytes ≡ prefix ++ rest) × AnswersEach IsAnswer n prefix texts
    × Appends old new (concat texts ++ part) × Remains (IsAnswer k) e rest part × RoseBy (n + k) from to

-- one line was taken and answered, or how that ended
abbrev pub IsStep :
    (ℕ → Option (List ℕ) → List ℕ → Type 0) → ℕ → ℕ → Option (List ℕ) → Option (List ℕ) → Option (List ℕ)
    → Option (List ℕ) → Result (Unit {0}) Ended → Type 0
IsStep IsAnswer from to left rest old new (Ok done) =
    (line : List ℕ) × (text : List ℕ) × (n : ℕ)
    × TakesLine left rest line × Answers (IsAnswer n) line text × RoseBy n from to × Appends old new text
IsStep IsAnswer from to left rest old new (Err ended.Done) =
    Keeps left rest × IsAtEnd rest × (old ≡ new) × RoseBy 0 from to
IsStep IsAnswer from to left rest old new (Err ended.ReadFault) = (old ≡ new) × RoseBy 0 from to
IsStep IsAnswer from to left rest old new (Err ended.OutOfMemory) = (old ≡ new) × RoseBy 0 from to
IsStep IsAnswer from to left rest old new (Err ended.WriteFault) =
    (line : List ℕ) × (text : List ℕ) × (n : ℕ) × (len : ℕ)
    × TakesLine left rest line × Answers (IsAnswer n) line text × RoseBy n from to
    × Appends old new (take len text)

-- the text was written, or how that ended
abbrev pub IsWritten :
    Option (List ℕ) → Option (List ℕ) → Result (String Global) AllocError → Result (Unit {0}) Ended → Type 0
IsWritten old new (Ok text) (Ok done) = Appends old new (string_bytes text)
IsWritten old new (Ok text) (Err e) =
    (n : ℕ) × (e ≡ ended.WriteFault) × Appends old new (take n (string_bytes text))
IsWritten old new (Err e) (Ok done) = ⊥
IsWritten old new (Err e) (Err x) = (x ≡ ended.OutOfMemory) × (old ≡ new)
