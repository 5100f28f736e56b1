-- What is answered: a status and a text.
use Rattle.std.specs.Prelude.{ℕ, List, string_bytes}
use Rattle.policy_gate.specs.declared.status.Status.{Status}
use Rattle.policy_gate.specs.declared.reply.Reply.{Reply}

-- how a run ends, and all that it writes
pub record Answer : Type 0 where
  pub status : Status
  pub text : List ℕ

abbrev pub answer : Status → List ℕ → Answer
answer s t = record { status = s; text = t }

-- a reply, without where it lies in memory
abbrev pub reply_view : Reply → Answer
reply_view r = answer r.status (string_bytes r.text)
