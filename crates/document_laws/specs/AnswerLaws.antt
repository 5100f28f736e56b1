-- What a document is answered is settled.
use Rattle.std.specs.Prelude.{◌≡◌, ℕ, List}
use Rattle.policy_gate.specs.Answer.{IsAnswer}
use Rattle.policy_gate.specs.Reply.{Answer}
use Rattle.policy_gate.specs.declared.command.Command.{Command}

-- a command has at most one answer to the bytes of a document: one status and one text
abbrev pub AnswersAreSettled : Type 0
AnswersAreSettled =
    (c : Command) (bytes : List ℕ) (a b : Answer) → IsAnswer c bytes a → IsAnswer c bytes b → a ≡ b
