-- What a call says its caller.
use Rattle.std.specs.Prelude.{◌≡◌, ◌==◌, ◌<◌, ◌≤◌, ◌⊎◌, ℕ, List, [], ◌++◌, length, take, drop, Option, Some, None, if◌then◌else◌}
use Rattle.std.specs.List.{slice_split}
use Rattle.std.specs.Str.{is_utf8}
use Rattle.byte_streams.specs.Document.{document_limit}
use Rattle.policy_gate.specs.Answer.{IsAnswer}
use Rattle.json_document.specs.declared.document.Document.{Document}
use Rattle.policy_gate.specs.Command.{command_of, own_document, shape_of}
use Rattle.policy_gate.specs.Headline.{HasDocument, HasPoliciesFor, IsDocumentOf, KeepsRulesOf, Says}
use Rattle.policy_gate.specs.Reply.{Answer, answer}
use Rattle.policy_gate.specs.Run.{Reads, too_long, usage}
use Rattle.policy_gate.specs.declared.command.Command.{Command}
use Rattle.policy_gate.specs.declared.status.Status.TheVariants as status

-- the words of a command, which zero bytes part; bytes that are no text have none
abbrev pub words_in : List ℕ → List (List ℕ)
words_in bytes = if is_utf8 bytes then slice_split (λ b. b == 0) bytes else []

-- what is expected for a command that has a document of its own; and for the others, which read the caller's
abbrev pub IsExpectedOn : Option (List ℕ) → Command → List ℕ → Answer → Type 0
IsExpectedOn (Some own) command document a = IsAnswer command own a
IsExpectedOn None command document a = ((length document ≤ document_limit) × IsAnswer command document a)
    ⊎ ((document_limit < length document) × (a ≡ too_long))

-- what is expected for words that are no command, and for those that are one
abbrev pub IsExpectedTo : Option Command → List ℕ → Answer → Type 0
IsExpectedTo None document a = a ≡ usage
IsExpectedTo (Some command) document a = IsExpectedOn (own_document command) command document a

-- a call says what is expected; or that memory ran out, with no text
abbrev pub IsReported : Option Command → List ℕ → Answer → Type 0
IsReported command document a = IsExpectedTo command document a ⊎ (a ≡ answer status.OutOfMemory [])

-- the words are a command that reads the caller's document, and that is no longer than one may be, and keeps
-- every rule of the command
pub record KeepAllRules (words document : List ℕ) : Type 0 where
  pub command : Command
  pub is : command_of (words_in words) ≡ Some command
  pub reads : Reads command
  pub few : length document ≤ document_limit
  pub read : Document
  pub of : IsDocumentOf (shape_of command) document read
  pub rules : KeepsRulesOf command read

-- a text over the start of other bytes: as much of it as there is room for, and behind it what was there
abbrev pub laid_over : List ℕ → List ℕ → List ℕ
laid_over text bytes = take (length bytes) text ++ drop (length text) bytes

-- the caller is handed a text: its size, and as much of it as `out` has room for
pub record IsHanded (text : List ℕ) (size : ℕ) (out out' : List ℕ) : Type 0 where
  pub whole : size ≡ length text
  pub prefix : out' ≡ laid_over text out

-- the document that a command works on: its own, where it has one, or that of the caller
abbrev pub of_own : Option (List ℕ) → List ℕ → List ℕ
of_own None document = document
of_own (Some own) document = own

abbrev pub document_for : Command → List ℕ → List ℕ
document_for c document = of_own (own_document c) document

-- the command that the words are works on a document, of which the text says what status 0 says
abbrev pub SaysDone : List ℕ → List ℕ → List ℕ → Type 0
SaysDone words document text = (c : Command) → command_of (words_in words) ≡ Some c →
    HasDocument c (document_for c document) (λ d. Says c d text)

-- the words are a command, and the policies of the document that it works on are not accepted, for `level` at the level
abbrev pub HasFaultyPolicies : List ℕ → List ℕ → Type 0
HasFaultyPolicies words document = (c : Command) × (command_of (words_in words) ≡ Some c)
    × HasDocument c (document_for c document) (λ d. ¬ HasPoliciesFor c d)

-- the bytes are a document for the command, and the caller is handed a text that says of it what it should
abbrev pub HandsOut : Command → (Document → List ℕ → Type 0) → List ℕ → ℕ → List ℕ → List ℕ → Type 0
HandsOut command Is document size out out' =
    (text : List ℕ) × IsHanded text size out out' × HasDocument command document (λ d. Is d text)
