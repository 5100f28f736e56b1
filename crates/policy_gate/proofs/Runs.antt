-- From what a run does to why it ends so. Nothing here looks into what answers a document has.
-- The plan. What a run does is a chain of cases (words, bytes, document, answer, write). One induction over this chain for
-- each promise: from the status to its cause (`causes`), from the status to what was read (`read_for`), from a rule to the
-- status (`usage_for`, `too_long_for`, `exact_for`), and from 0, 1 and 12 to what is written.
use Rattle.std.proofs.Common.{◌≡◌, ℕ, ◌+◌, ◌<◌, ◌≤◌, List, ◌++◌, length, true≢false, ◌⊎◌, inl, inr, Option, Some, None, append-nil, length-append, sym, ap, ◌∙◌, refl, subst, arith}
use Rattle.std.specs.Io.KnownBytes.{Appends, Consumes, IsAtEnd}
use Rattle.byte_streams.specs.Document.{document_limit}
use Rattle.byte_streams.specs.State.{SinkState, SourceState}
use Rattle.byte_streams.specs.Steps.{IsQuiet, Rose}
use Rattle.policy_gate.specs.Answer.{IsAnswer}
use Rattle.policy_gate.specs.Reply.{Answer, answer}
use Rattle.policy_gate.specs.Command.{own_document}
use Rattle.policy_gate.specs.Laws.{Laws}
use Rattle.policy_gate.specs.Run.{Cause, Gives, GivesWhole, IsExpectedOfDocument, IsExpected, IsExpectedAfterReading, IsExpectedFor, IsGiven, IsGivenBy, IsReader, IsToReadBy, IsToWorkOn, Run, Runs}
use Rattle.policy_gate.specs.Status.{IsAfterEnd, IsOfDocument, IsUnlessOutOfMemory, after_fault}
use Rattle.policy_gate.specs.declared.command.Command.{Command}
use Rattle.policy_gate.specs.declared.command.Command.TheVariants.{Live, Sample}
use Rattle.policy_gate.specs.declared.status.Status.{Status}
use Rattle.policy_gate.specs.declared.status.Status.TheVariants.{Done, Findings, Usage, Document, Request, Store, PartialRequest, ReadFault, WriteFault, OutOfMemory, TooLong, Edit}
use Rattle.json_samples.specs.Sample.{sample_document}
use Rattle.policy_gate.specs.Headline.{HasDocument, HasPoliciesFor, IsRefusedEdit, IsSampled, KeepsAllRules, OwnSays, Says, WorkedOn}
use Rattle.policy_gate.proofs.Answers.{status_of_document}
use Rattle.policy_gate.proofs.Says.{says_done, says_edit, says_refused, kept_is_done}

-- ---- each status has its cause

module _ (sink sink' : SinkState) where
  -- of an answer whose status a fault leaves
  other : (Why : Status → Type 0) (a : Answer) (t status : Status) → a.status ≡ t → after_fault t ≡ t → Why t → Gives a sink sink' status → Why status
  other Why a t status is same why (inl g) = subst Why (sym (g.0 ∙ is)) why
  other Why a t status is same why (inr g) = subst Why (sym (g.1 ∙ ap after_fault is ∙ same)) why

module _ (command : Command) (source source' : SourceState) (sink sink' : SinkState) where
  abbrev Why : Status → Type 0
  Why t = Cause (Some command) source source' sink sink' t

  -- of an answer to a document
  judged : (t : Status) (text : List ℕ) (status : Status) → IsOfDocument t → IsExpectedOfDocument (Some command) source source' t text → Gives (answer t text) sink sink' status → Why status
  judged Done text status ok expected (inl g) = subst Why (sym g.0) (text, expected, g.1)
  judged Done text status ok expected (inr g) = subst Why (sym g.1) (g.0, (text, expected, g.2))
  judged Usage text status ok expected g = absurd ok
  judged Document text status ok expected g = other sink sink' Why (answer Document text) Document status refl refl (text, expected) g
  judged Findings text status ok expected g = other sink sink' Why (answer Findings text) Findings status refl refl (text, expected) g
  judged Request text status ok expected g = other sink sink' Why (answer Request text) Request status refl refl (text, expected) g
  judged Store text status ok expected g = other sink sink' Why (answer Store text) Store status refl refl (text, expected) g
  judged PartialRequest text status ok expected g = other sink sink' Why (answer PartialRequest text) PartialRequest status refl refl (text, expected) g
  judged ReadFault text status ok expected g = absurd ok
  judged WriteFault text status ok expected g = absurd ok
  judged OutOfMemory text status ok expected g = absurd ok
  judged TooLong text status ok expected g = absurd ok
  judged Edit text status ok expected g = other sink sink' Why (answer Edit text) Edit status refl refl (text, expected) g

  after_reading : (a : Answer) (status : Status) → own_document command ≡ None → IsExpectedAfterReading command source source' a → Gives a sink sink' status → Why status
  after_reading a status reads (inl (bytes, read, is)) g = judged a.status a.text status (status_of_document command bytes a is) (bytes, subst (λ o. IsGivenBy o source source' bytes) (sym reads) read, is) g
  after_reading a status reads (inr (inl d)) g = other sink sink' Why a ReadFault status (ap (λ b. b.status) d.0) refl (reads, d.1) g
  after_reading a status reads (inr (inr d)) g = other sink sink' Why a TooLong status (ap (λ b. b.status) d.0) refl (reads, d.1) g

  for_command : (o : Option (List ℕ)) → own_document command ≡ o → (a : Answer) (status : Status) → IsExpectedFor o command source source' a → Gives a sink sink' status → Why status
  for_command None own a status d g = after_reading a status own d g
  for_command (Some bytes) own a status d g = judged a.status a.text status (status_of_document command bytes a d.1) (bytes, subst (λ o. IsGivenBy o source source' bytes) (sym own) (refl, d.0), d.1) g

module _ (source source' : SourceState) (sink sink' : SinkState) where
  for_words : (command : Option Command) (a : Answer) (status : Status) → IsExpected command source source' a → Gives a sink sink' status → Cause command source source' sink sink' status
  for_words None a status d g = other sink sink' (Cause None source source' sink sink') a Usage status (ap (λ b. b.status) d.0) refl (refl, d.1) g
  for_words (Some command) a status d g = for_command command source source' sink sink' (own_document command) refl a status d g

pub causes : (command : Option Command) (source source' : SourceState) (sink sink' : SinkState) (status : Status)
    → Runs command source source' sink sink' status → Cause command source source' sink sink' status
causes command source source' sink sink' status (inl d) = subst (Cause command source source' sink sink') (sym d.1) d.2
causes command source source' sink sink' status (inr (a, d, g)) = for_words source source' sink sink' command a status d g

-- ---- which statuses mean that the source was read to its end

-- the words are a command, and these are the bytes that it works on
abbrev IsAtWork : Option Command → SourceState → SourceState → Type 0
IsAtWork command source source' = (c : Command) × (bytes : List ℕ) × ((command ≡ Some c) × IsGiven c source source' bytes)

-- what is expected for a document is expected after its bytes were given
was_given : (command : Option Command) (source source' : SourceState) (status : Status) (text : List ℕ) → IsExpectedOfDocument command source source' status text → IsAtWork command source source'
was_given None source source' status text expected = absurd expected
was_given (Some command) source source' status text (bytes, given, is) = (command, bytes, (refl, given))

given_at : (command : Option Command) (source source' : SourceState) (sink sink' : SinkState) (status : Status) → Cause command source source' sink sink' status → IsAfterEnd status → IsAtWork command source source'
given_at command source source' sink sink' Done (text, expected, w) ok = was_given command source source' Done text expected
given_at command source source' sink sink' Usage why ok = absurd ok
given_at command source source' sink sink' Document (text, expected) ok = was_given command source source' Document text expected
given_at command source source' sink sink' Findings (text, expected) ok = was_given command source source' Findings text expected
given_at command source source' sink sink' Request (text, expected) ok = was_given command source source' Request text expected
given_at command source source' sink sink' Store (text, expected) ok = was_given command source source' Store text expected
given_at command source source' sink sink' PartialRequest (text, expected) ok = was_given command source source' PartialRequest text expected
given_at command source source' sink sink' ReadFault why ok = absurd ok
given_at command source source' sink sink' WriteFault (rose, (text, expected, w)) ok = was_given command source source' Done text expected
given_at command source source' sink sink' OutOfMemory why ok = absurd ok
given_at command source source' sink sink' TooLong why ok = absurd ok
given_at command source source' sink sink' Edit (text, expected) ok = was_given command source source' Edit text expected

pub read_for : (command : Option Command) (source source' : SourceState) (sink sink' : SinkState) (status : Status)
    → Runs command source source' sink sink' status → IsAfterEnd status → (c : Command) × (bytes : List ℕ) × ((command ≡ Some c) × IsGiven c source source' bytes)
read_for command source source' sink sink' status runs = given_at command source source' sink sink' status (causes command source source' sink sink' status runs)

-- ---- each status comes where its rule says so

quiet : (old new : ℕ) → IsQuiet old new → Rose old new → ⊥
quiet old new q (inl up) = omega arith
quiet old new q (inr end) = omega arith

-- what was taken up to the end is all that was left
pub all_taken : (bytes taken : List ℕ) (new : Option (List ℕ)) → Consumes (Some bytes) new taken → IsAtEnd new → bytes ≡ taken
all_taken bytes taken None p e = absurd p
all_taken bytes taken (Some rest) p e = p ∙ ap (λ r. taken ++ r) e ∙ append-nil taken

-- what was taken is no more than was left
pub longer : (bytes taken : List ℕ) (new : Option (List ℕ)) → Consumes (Some bytes) new taken → length taken ≤ length bytes
longer bytes taken None p = absurd p
longer bytes taken (Some rest) p = rw p (simp length-append (omega arith))

-- the status of an answer that a fault leaves
stays : (a : Answer) (t : Status) (sink sink' : SinkState) (status : Status) → a.status ≡ t → after_fault t ≡ t → Gives a sink sink' status → status ≡ t
stays a t sink sink' status is same (inl g) = g.0 ∙ is
stays a t sink sink' status is same (inr g) = g.1 ∙ ap after_fault is ∙ same

module _ (command : Option Command) (source source' : SourceState) (sink sink' : SinkState) (status : Status) where
  usage_at : Runs None source source' sink sink' status → status ≡ Usage
  usage_at (inl d) = absurd (true≢false (sym d.0))
  usage_at (inr (a, d, g)) = stays a Usage sink sink' status (ap (λ b. b.status) d.0) refl g

  pub usage_for : Runs command source source' sink sink' status → command ≡ None → status ≡ Usage
  usage_for runs is = usage_at (subst (λ o. Runs o source source' sink sink' status) is runs)

  -- more was taken than a document may have
  past : (o : Option Command) (a : Answer) → source.taken + document_limit < source'.taken → IsExpected o source source' a → Gives a sink sink' status → status ≡ TooLong
  past None a more (is, same) g = let still = ap (λ s. s.taken) same in absurd (omega (arith, still))
  past (Some c) a more d g = past_for (own_document c) d
    where
      past_for : (o : Option (List ℕ)) → IsExpectedFor o c source source' a → status ≡ TooLong
      past_for None (inl (bytes, (short, t, end), is)) = absurd (omega (arith, t.0))
      past_for None (inr (inl d)) = absurd (omega (arith, d.2))
      past_for None (inr (inr d)) = stays a TooLong sink sink' status (ap (λ b. b.status) d.0) refl g
      past_for (Some own) (same, is) = let still = ap (λ s. s.taken) same in absurd (omega (arith, still))

  pub too_long_for : Runs command source source' sink sink' status → source.taken + document_limit < source'.taken → IsUnlessOutOfMemory status TooLong
  too_long_for (inl d) more = inr d.1
  too_long_for (inr (a, d, g)) more = inl (past command a more d g)

module _ (bytes : List ℕ) (source source' : SourceState) (sink sink' : SinkState) (status : Status) (reported : source.left ≡ Some bytes) (q : IsQuiet source.faults source'.faults) where
  reported_at : (taken : List ℕ) → Consumes source.left source'.left taken → Consumes (Some bytes) source'.left taken
  reported_at taken p = subst (λ l. Consumes l source'.left taken) reported p

  past_reported : (c : Command) (a : Answer) → document_limit < length bytes → IsExpectedAfterReading c source source' a → Gives a sink sink' status → status ≡ TooLong
  past_reported c a long (inl (taken, (short, t, end), is)) g = let same = ap length (all_taken bytes taken source'.left (reported_at taken t.1) end) in absurd (omega (arith, same))
  past_reported c a long (inr (inl d)) g = absurd (quiet source.faults source'.faults q d.1)
  past_reported c a long (inr (inr d)) g = stays a TooLong sink sink' status (ap (λ b. b.status) d.0) refl g

  pub too_long_reported : (command : Option Command) → Runs command source source' sink sink' status → IsReader command → document_limit < length bytes → IsUnlessOutOfMemory status TooLong
  too_long_reported None runs reads long = absurd reads
  too_long_reported (Some c) (inl d) reads long = inr d.1
  too_long_reported (Some c) (inr (a, d, g)) reads long = inl (past_reported c a long (subst (λ o. IsExpectedFor o c source source' a) reads d) g)

module _ (bytes : List ℕ) (source source' : SourceState) (sink sink' : SinkState) (status : Status) where
  -- which answer to the bytes is written
  abbrev Answered : Command → Type 0
  Answered c = (text : List ℕ) × IsAnswer c bytes (answer status text) × Appends sink.holds sink'.holds text

  given : (c : Command) (a : Answer) → IsAnswer c bytes a → IsQuiet sink.faults sink'.faults → Gives a sink sink' status → Answered c
  given c a is q' (inl g) = (a.text, subst (λ t. IsAnswer c bytes (answer t a.text)) (sym g.0) is, g.1)
  given c a is q' (inr g) = absurd (quiet sink.faults sink'.faults q' g.0)

  within : (c : Command) (a : Answer) → source.left ≡ Some bytes → length bytes ≤ document_limit → IsQuiet source.faults source'.faults → IsQuiet sink.faults sink'.faults → IsExpectedAfterReading c source source' a → Gives a sink sink' status → Answered c
  within c a reported short q q' (inl (taken, (few, t, end), is)) g = given c a (subst (λ b. IsAnswer c b a) (sym (all_taken bytes taken source'.left (subst (λ l. Consumes l source'.left taken) reported t.1) end)) is) q' g
  within c a reported short q q' (inr (inl d)) g = absurd (quiet source.faults source'.faults q d.1)
  within c a reported short q q' (inr (inr (is, (taken, many, t)))) g = let most = longer bytes taken source'.left (subst (λ l. Consumes l source'.left taken) reported t.1) in absurd (omega (arith, most))

  exact_by : (o : Option (List ℕ)) (c : Command) (a : Answer) → IsToReadBy o source source' bytes → IsQuiet sink.faults sink'.faults → IsExpectedFor o c source source' a → Gives a sink sink' status → Answered c
  exact_by None c a (reported, short, q) q' d g = within c a reported short q q' d g
  exact_by (Some own) c a is q' d g = given c a (subst (λ b. IsAnswer c b a) (sym is) d.1) q' g

  pub exact_for : (command : Option Command) (c : Command) → Runs command source source' sink sink' status → command ≡ Some c → IsToWorkOn c source source' bytes → IsQuiet sink.faults sink'.faults → Answered c ⊎ (status ≡ OutOfMemory)
  exact_for command c (inl d) is work q' = inr d.1
  exact_for command c (inr (a, d, g)) is work q' = inl (exact_by (own_document c) c a work q' (subst (λ o. IsExpected o source source' a) is d) g)

-- ---- what 0 and 1 say, and that 0 comes where every rule holds

module _ (laws : Laws) (run : Run) (runs : Runs run.command run.source run.source' run.sink run.sink' run.status) where
  -- why it ends so
  why : (t : Status) → run.status ≡ t → Cause run.command run.source run.source' run.sink run.sink' t
  why t ends = subst (Cause run.command run.source run.source' run.sink run.sink') ends (causes run.command run.source run.source' run.sink run.sink' run.status runs)

  pub done_for : (c : Command) → run.command ≡ Some c → run.status ≡ Done
      → (bytes : List ℕ) × (text : List ℕ) × IsGiven c run.source run.source' bytes
      × HasDocument c bytes (λ d. Says c d text)
      × Appends run.sink.holds run.sink'.holds text
  done_for c is ends = at (subst (λ o. Cause o run.source run.source' run.sink run.sink' Done) is (why Done ends))
    where
      at : Cause (Some c) run.source run.source' run.sink run.sink' Done → (bytes : List ℕ) × (text : List ℕ) × IsGiven c run.source run.source' bytes × HasDocument c bytes (λ d. Says c d text) × Appends run.sink.holds run.sink'.holds text
      at (text, (bytes, read, answer), written) = (bytes, text, read, says_done laws c bytes text answer, written)

  pub sampled_for : (seed size : ℕ) → OwnSays (sample_document seed size) (Sample seed size) (IsSampled size) run
  sampled_for seed size is ends = at (done_for (Sample seed size) is ends)
    where
      at : ((bytes : List ℕ) × (text : List ℕ) × ((bytes ≡ sample_document seed size) × (run.source' ≡ run.source)) × HasDocument (Sample seed size) bytes (λ d. IsSampled size d text) × Appends run.sink.holds run.sink'.holds text)
          → (text : List ℕ) × (run.source' ≡ run.source) × HasDocument (Sample seed size) (sample_document seed size) (λ d. IsSampled size d text) × Appends run.sink.holds run.sink'.holds text
      at (bytes, text, (same, alone), has, written) = (text, alone, subst (λ b. HasDocument (Sample seed size) b (λ d. IsSampled size d text)) same has, written)

  pub refused_for : run.status ≡ Findings → (c : Command) × WorkedOn c (λ d. ¬ HasPoliciesFor c d) run
  refused_for ends = at run.command refl (why Findings ends)
    where
      at : (o : Option Command) → run.command ≡ o → Cause o run.source run.source' run.sink run.sink' Findings → (c : Command) × WorkedOn c (λ d. ¬ HasPoliciesFor c d) run
      at None is (text, expected) = absurd expected
      at (Some c) is (text, (bytes, read, answer)) = (c, (bytes, (is, read), says_refused laws c bytes text answer))

  pub edit_for : run.status ≡ Edit → (text : List ℕ) × WorkedOn Live (λ d. IsRefusedEdit d text) run
  edit_for ends = at run.command refl (why Edit ends)
    where
      at : (o : Option Command) → run.command ≡ o → Cause o run.source run.source' run.sink run.sink' Edit → (text : List ℕ) × WorkedOn Live (λ d. IsRefusedEdit d text) run
      at None is (text, expected) = absurd expected
      at (Some c) is (text, (bytes, read, answer)) =
          let said = says_edit laws c bytes text answer in
          (text, (bytes, (is ∙ ap Some said.0, subst (λ k. IsGiven k run.source run.source' bytes) said.0 read), subst (λ k. HasDocument k bytes (λ d. IsRefusedEdit d text)) said.0 said.1))

  pub complete_for : KeepsAllRules run → IsUnlessOutOfMemory run.status Done
  complete_for k = of_exact (exact_for k.bytes run.source run.source' run.sink run.sink' run.status run.command k.command runs k.undisturbed.0 k.undisturbed.1 k.undisturbed.2)
    where
      of_exact : GivesWhole k.command k.bytes run ⊎ (run.status ≡ OutOfMemory) → IsUnlessOutOfMemory run.status Done
      of_exact (inl (text, answer, written)) = inl (kept_is_done laws k.command k.bytes k.document _ k.is k.rules answer)
      of_exact (inr none) = inr none
