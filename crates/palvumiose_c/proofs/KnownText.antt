-- From what `run` does with a source and a sink in memory to what a call says.
use Rattle.std.proofs.Common.{◌≡◌, ℕ, ◌≤◌, List, [], length, inl, inr, Option, Some, None, sym, ap, ◌∙◌, subst, arith}
use Rattle.std.specs.Io.KnownBytes.{Appends, Consumes, Keeps}
use Rattle.byte_streams.specs.Document.{document_limit, WasRead}
use Rattle.byte_streams.specs.State.{SinkState, SourceState}
use Rattle.byte_streams.specs.Steps.{IsQuiet, Rose}
use Rattle.policy_gate.specs.Answer.{IsAnswer}
use Rattle.policy_gate.specs.Command.{own_document}
use Rattle.policy_gate.specs.Reply.{Answer, answer}
use Rattle.policy_gate.specs.Run.{Gives, IsExpected, IsExpectedAfterReading, IsExpectedFor, IsGivenBy, IsToReadBy, IsToWorkOn, Reads, Runs}
use Rattle.policy_gate.specs.declared.command.Command.{Command}
use Rattle.policy_gate.specs.declared.status.Status.{Status}
use Rattle.policy_gate.specs.declared.status.Status.TheVariants.{OutOfMemory}
use Rattle.policy_gate.proofs.Runs.{all_taken, longer}
use Rattle.palvumiose_c.specs.KnownText.{IsExpectedOn, IsExpectedTo, IsReported, of_own}

-- a count of faults at 0 has not risen
not_risen : (old new : ℕ) → new ≤ 0 → Rose old new → ⊥
not_risen old new none (inl up) = omega arith
not_risen old new none (inr end) = omega arith

-- a source that gives a document from its first byte on and does not fail, and a sink that holds nothing, then a text, and does not fail
pub record IsInMemory (document text : List ℕ) (source source' : SourceState) (sink sink' : SinkState) : Type 0 where
  pub left : source.left ≡ Some document
  pub sound : source'.faults ≤ 0
  pub empty : sink.holds ≡ Some []
  pub full : sink'.holds ≡ Some text
  pub took : sink'.faults ≤ 0

module _ {document held : List ℕ} {source source' : SourceState} {sink sink' : SinkState} (m : IsInMemory document held source source' sink sink') where
  at_start : (taken : List ℕ) → Consumes source.left source'.left taken → Consumes (Some document) source'.left taken
  at_start taken = subst (λ l. Consumes l source'.left taken) m.left

  whole : (bytes : List ℕ) → WasRead source source' bytes → document ≡ bytes
  whole bytes (few, (count, prefix), end) = all_taken document bytes source'.left (at_start bytes prefix) end

  -- the bytes that a command was given are those of its document
  pub given_by : (o : Option (List ℕ)) (bytes : List ℕ) → IsGivenBy o source source' bytes → of_own o document ≡ bytes
  given_by None bytes read = whole bytes read
  given_by (Some own) bytes is = sym is.0

  pub written : (text : List ℕ) → Appends sink.holds sink'.holds text → held ≡ text
  written text w = subst (λ o. Appends (Some []) o text) m.full (subst (λ o. Appends o sink'.holds text) m.empty w)

  nothing : Keeps sink.holds sink'.holds → held ≡ []
  nothing k = subst (λ o. Keeps (Some []) o) m.full (subst (λ o. Keeps o sink'.holds) m.empty k)

  after_reading : (c : Command) (a : Answer) → IsExpectedAfterReading c source source' a → IsExpectedOn None c document a
  after_reading c a (inl (bytes, read, is)) = inl (subst (λ b. (length b ≤ document_limit) × IsAnswer c b a) (sym (whole bytes read)) (read.0, is))
  after_reading c a (inr (inl d)) = absurd (not_risen source.faults source'.faults m.sound d.1)
  after_reading c a (inr (inr (is, (taken, many, (count, prefix))))) = let most = longer document taken source'.left (at_start taken prefix) in inr (omega (arith, most), is)

  expected_for : (o : Option (List ℕ)) (c : Command) (a : Answer) → IsExpectedFor o c source source' a → IsExpectedOn o c document a
  expected_for None c a d = after_reading c a d
  expected_for (Some own) c a d = d.1

  expected : (command : Option Command) (a : Answer) → IsExpected command source source' a → IsExpectedTo command document a
  expected None a d = d.0
  expected (Some c) a d = expected_for (own_document c) c a d

  given : (command : Option Command) (status : Status) (a : Answer) → IsExpectedTo command document a → Gives a sink sink' status → IsReported command document (answer status held)
  given command status a d (inl g) = inl (subst (λ t. IsExpectedTo command document (answer status t)) (sym (written a.text g.1)) (subst (λ s. IsExpectedTo command document (answer s a.text)) (sym g.0) d))
  given command status a d (inr g) = absurd (not_risen sink.faults sink'.faults m.took g.0)

  -- the answer that is expected, or that memory ran out
  pub known_from_runs : (command : Option Command) (status : Status) → Runs command source source' sink sink' status → IsReported command document (answer status held)
  known_from_runs command status (inl d) = inr (ap (λ s. answer s held) d.1 ∙ ap (answer OutOfMemory) (nothing d.2))
  known_from_runs command status (inr (a, d, g)) = given command status a (expected command a d) g

  -- what is said of the bytes that were read and of the text that was written
  pub said_of_both : (Says : List ℕ → List ℕ → Type 0)
      → ((bytes : List ℕ) × (text : List ℕ) × WasRead source source' bytes × Says bytes text × Appends sink.holds sink'.holds text) → Says document held
  said_of_both Says (bytes, text, read, said, w) = subst (λ t. Says document t) (sym (written text w)) (subst (λ b. Says b text) (sym (whole bytes read)) said)

  -- the document is what a command that reads one works on
  pub to_work_on : (c : Command) → Reads c → length document ≤ document_limit → IsToWorkOn c source source' document
  to_work_on c reads few = subst (λ o. IsToReadBy o source source' document) (sym reads) (m.left, few, (omega (arith, m.sound), omega (arith, m.sound)))

  pub took_all : IsQuiet sink.faults sink'.faults
  took_all = (omega (arith, m.took), omega (arith, m.took))
