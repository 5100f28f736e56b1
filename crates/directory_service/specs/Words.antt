-- What the words of a call ask for.
use Rattle.std.specs.Prelude.{ℕ, List, [], ◌∷◌, if◌then◌else◌, Option, Some, None, codes}
use Rattle.std.specs.Str.{bytes_eq}
use Rattle.directory_service.specs.declared.words.Command.{Command}
use Rattle.directory_service.specs.declared.words.Command.TheVariants.{Import, Decide, DecideBy, Check}

-- the command that a word is
abbrev pub command_of : List ℕ → Option Command
command_of word =
    if bytes_eq word (codes "import") then Some Import else
    (if bytes_eq word (codes "decide") then Some Decide else
    (if bytes_eq word (codes "check") then Some Check else None))

-- the command that it is before the names of a file and of a document
abbrev pub command_by : List ℕ → Option Command
command_by word = if bytes_eq word (codes "decide") then Some DecideBy else None

-- what the words ask for: the first is the command, the second the path of its file, and a third that of a
-- document; others ask for nothing
abbrev pub asked_for : List (List ℕ) → Option Command
asked_for [] = None
asked_for (word ∷ []) = None
asked_for (word ∷ path ∷ []) = command_of word
asked_for (word ∷ path ∷ document ∷ []) = command_by word
asked_for (word ∷ path ∷ document ∷ more ∷ words) = None
