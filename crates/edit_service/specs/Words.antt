-- What the words of a call ask for.
use Rattle.std.specs.Prelude.{ℕ, List, [], ◌∷◌, if◌then◌else◌, Option, Some, None, codes}
use Rattle.std.specs.Str.{bytes_eq}
use Rattle.policy_risks.specs.declared.endings.Assumed.TheVariants.{Nothing, PrincipalAndResource}
use Rattle.edit_service.specs.declared.words.Command.{Command}
use Rattle.edit_service.specs.declared.words.Command.TheVariants.{Compare, FailOpen}

-- the command that a word is
abbrev pub command_of : List ℕ → Option Command
command_of word =
    if bytes_eq word (codes "compare") then Some Compare
    else if bytes_eq word (codes "fail-open") then Some (FailOpen Nothing) else None

-- the command that a word is with a second one
abbrev pub graded_command_of : List ℕ → List ℕ → Option Command
graded_command_of word grade =
    if bytes_eq word (codes "fail-open") then
    (if bytes_eq grade (codes "stored") then Some (FailOpen PrincipalAndResource) else None) else None

-- what one word or two ask for; no words and more words ask for nothing
abbrev pub asked_for : List (List ℕ) → Option Command
asked_for [] = None
asked_for (word ∷ []) = command_of word
asked_for (word ∷ grade ∷ []) = graded_command_of word grade
asked_for (word ∷ grade ∷ more ∷ words) = None
