-- What an answer that is given says of the status that a run ends with, and which status an answer leads to.
use Rattle.std.proofs.Common.{◌≡◌, ◌++◌, ◌⊎◌, inl, inr, ℕ, ◌<◌, ◌≤◌, List, [], IfOk, string_bytes, length, length-append, append-nil, Option, Some, None, Result, Ok, Err, refl, sym, ap, ◌∙◌, subst, arith}
use Rattle.std.specs.Io.KnownBytes.{Appends, Consumes, IsAtEnd}
use Rattle.byte_streams.specs.Document.{document_limit, WasRead}
use Rattle.byte_streams.specs.State.{SourceState, SinkState}
use Rattle.byte_streams.specs.Steps.{IsQuiet, Rose}
use Rattle.plain_lemmas.proofs.Options.{some_injective}
use Rattle.serde_json.specs.Data.{Data}
use Rattle.json_document.specs.Laws.{OneReading}
use Rattle.json_document.specs.Reading.{IsRead as IsJsonRead, IsReadAs as IsJsonReadAs}
use Rattle.json_document.specs.declared.document.Document.{Document as Json}
use Rattle.json_document.specs.declared.place.Place.{Place}
use Rattle.json_document.specs.declared.shape.Shape.TheVariants.{Whole}
use Rattle.policy_validate.specs.Accepted.{IsAccepted}
use Rattle.policy_risks.specs.declared.endings.Assumed.{Assumed}
use Rattle.edit_service.specs.declared.words.Command.{Command}
use Rattle.edit_service.specs.declared.words.Command.TheVariants.{Compare, FailOpen}
use Rattle.edit_service.specs.Run.{AreAccepted, AreForbidsAnswered, AreForbidsComplete, IsAnswerOn, IsAnswerTo, IsAnswerToBytes, IsAnswered, IsAnsweredBy, IsComplete, IsExactBy, IsForbidsAnswerOn, IsForbidsAnswerTo, IsUndisturbed, IsUnlessOutOfMemory, ReportsTooMany, answer_of}
use Rattle.edit_service.specs.Documents.{IsReadAs}
use Rattle.edit_service.specs.Status.{after_fault}
use Rattle.std.specs.declared.alloc.AllocError.{AllocError}
use Rattle.finding_messages.specs.Findings.{Findings as Found}
use Rattle.finding_messages.specs.Written.{findings_text}
use Rattle.policy_validate.specs.Accepted.{findings_of}
use Rattle.edit_service.specs.declared.reply.Reply.{Reply}
use Rattle.edit_service.specs.declared.status.Status.TheVariants as status
use Rattle.edit_service.specs.Written.{Ends, Gives}
use Rattle.edit_service.specs.declared.document.EditDocument.{EditDocument}
use Rattle.edit_service.specs.declared.fault.EditFault.{EditFault}
use Rattle.edit_service.specs.declared.status.Status.{Status}
use Rattle.edit_service.specs.declared.status.Status.TheVariants.{Done, Findings, Usage, Document, ReadFault, WriteFault, OutOfMemory, TooLong}
use Rattle.edit_service.proofs.OneReading.{one_document}

-- a failing write makes no run done, and none one of no command
never_done : (s : Status) → after_fault s ≡ Done → ⊥
never_done Done h = cc
never_done Findings h = cc
never_done Usage h = cc
never_done Document h = cc
never_done ReadFault h = cc
never_done WriteFault h = cc
never_done OutOfMemory h = cc
never_done TooLong h = cc

usage_alone : (s : Status) → after_fault s ≡ Usage → s ≡ Usage
usage_alone Done h = absurd (cc)
usage_alone Findings h = absurd (cc)
usage_alone Usage h = refl
usage_alone Document h = absurd (cc)
usage_alone ReadFault h = absurd (cc)
usage_alone WriteFault h = absurd (cc)
usage_alone OutOfMemory h = absurd (cc)
usage_alone TooLong h = absurd (cc)

-- ---- what a status says

module _ (Answer : List ℕ → Status → List ℕ → Type 0) (old new : SourceState) (sink sink' : SinkState) where
  given_usage : (s ended : Status) (text : List ℕ) → Gives s text sink sink' ended → ended ≡ Usage → s ≡ Usage
  given_usage s ended text (inl h) e = sym h.0 ∙ e
  given_usage s ended text (inr h) e = usage_alone s (sym h.1 ∙ e)

  pub no_usage : ((bytes text : List ℕ) → Answer bytes Usage text → ⊥) → (ended : Status) → IsAnsweredBy Answer old new sink sink' ended → ended ≡ Usage → ⊥
  no_usage never ended (inl h) e = let clash : OutOfMemory ≡ Usage = sym h.0 ∙ e in cc
  no_usage never ended (inr h) e =
      let answer : IsAnswerTo Answer old new Usage h.1 = subst (λ s. IsAnswerTo Answer old new s h.1) (given_usage h.0 ended h.1 h.3 e) h.2 in
      never answer.0 h.1 answer.2

  abbrev pub Writes : Type 0
  Writes = (bytes : List ℕ) × (text : List ℕ) × WasRead old new bytes × Answer bytes Done text × Appends sink.holds sink'.holds text

  written_done : (s ended : Status) (text : List ℕ) → IsAnswerTo Answer old new s text → Gives s text sink sink' ended → ended ≡ Done → Writes
  written_done s ended text answer (inl h) e =
      let done : IsAnswerTo Answer old new Done text = subst (λ t. IsAnswerTo Answer old new t text) (sym h.0 ∙ e) answer in
      (done.0, text, done.1, done.2, h.1)
  written_done s ended text answer (inr h) e = absurd (never_done s (sym h.1 ∙ e))

  pub done : (ended : Status) → IsAnsweredBy Answer old new sink sink' ended → ended ≡ Done → Writes
  done ended (inl h) e = let clash : OutOfMemory ≡ Done = sym h.0 ∙ e in absurd (cc)
  done ended (inr h) e = written_done h.0 ended h.1 h.2 h.3 e

-- ---- which status an answer leads to

quiet : (old new : ℕ) → IsQuiet old new → Rose old new → ⊥
quiet old new q (inl up) = omega arith
quiet old new q (inr end) = omega arith

-- what was taken up to the end is all that was left
all_taken : (bytes taken : List ℕ) (new : Option (List ℕ)) → Consumes (Some bytes) new taken → IsAtEnd new → taken ≡ bytes
all_taken bytes taken None c e = absurd c
all_taken bytes taken (Some rest) c e = sym (c ∙ ap (λ r. taken ++ r) e ∙ append-nil taken)

-- what was taken is no more than was left
no_more : (bytes taken : List ℕ) (new : Option (List ℕ)) → Consumes (Some bytes) new taken → length taken ≤ length bytes
no_more bytes taken None c = absurd c
no_more bytes taken (Some rest) c = rw c (simp length-append (omega arith))

module _ (Answer : List ℕ → Status → List ℕ → Type 0) (old new : SourceState) (sink sink' : SinkState) (bytes : List ℕ) (u : IsUndisturbed old new sink sink' bytes) where
  all_read : (read : List ℕ) → WasRead old new read → read ≡ bytes
  all_read read was = all_taken bytes read new.left (subst (λ l. Consumes l new.left read) u.left was.1.1) was.2

  -- what was read is the document, where the source gives no more
  of_bytes : (s : Status) (text : List ℕ) → length bytes ≤ document_limit → IsAnswerTo Answer old new s text → Answer bytes s text
  of_bytes Done text few h = subst (λ b. Answer b Done text) (all_read h.0 h.1) h.2
  of_bytes Findings text few h = subst (λ b. Answer b Findings text) (all_read h.0 h.1) h.2
  of_bytes Usage text few h = subst (λ b. Answer b Usage text) (all_read h.0 h.1) h.2
  of_bytes Document text few h = subst (λ b. Answer b Document text) (all_read h.0 h.1) h.2
  of_bytes WriteFault text few h = subst (λ b. Answer b WriteFault text) (all_read h.0 h.1) h.2
  of_bytes OutOfMemory text few h = subst (λ b. Answer b OutOfMemory text) (all_read h.0 h.1) h.2
  of_bytes ReadFault text few h = absurd (quiet old.faults new.faults u.reads h.0)
  of_bytes TooLong text few h =
      let least = no_more bytes h.0.0 new.left (subst (λ l. Consumes l new.left h.0.0) u.left h.0.2.1) in
      let many = h.0.1 in
      absurd (omega arith)

  abbrev Written : Status → Type 0
  Written ended = (text : List ℕ) × Answer bytes ended text × Appends sink.holds sink'.holds text

  written : (s ended : Status) (text : List ℕ) → Answer bytes s text → Gives s text sink sink' ended → Written ended
  written s ended text answer (inl h) = (text, subst (λ t. Answer bytes t text) (sym h.0) answer, h.1)
  written s ended text answer (inr h) = absurd (quiet sink.faults sink'.faults u.writes h.0)

  exact_here : (ended : Status) → IsAnsweredBy Answer old new sink sink' ended → length bytes ≤ document_limit → Written ended ⊎ (ended ≡ OutOfMemory)
  exact_here ended (inl h) few = inr h.0
  exact_here ended (inr h) few = inl (written h.0 ended h.1 (of_bytes h.0 h.1 few h.2) h.3)

  too_many_read : (read : List ℕ) → WasRead old new read → document_limit < length bytes → ⊥
  too_many_read read was many = let same = ap length (all_read read was) in let few = was.0 in omega arith

  -- more than a document may have
  too_long : (s : Status) (text : List ℕ) → document_limit < length bytes → IsAnswerTo Answer old new s text → s ≡ TooLong
  too_long ReadFault text many h = absurd (quiet old.faults new.faults u.reads h.0)
  too_long TooLong text many h = refl
  too_long Done text many h = absurd (too_many_read h.0 h.1 many)
  too_long Findings text many h = absurd (too_many_read h.0 h.1 many)
  too_long Usage text many h = absurd (too_many_read h.0 h.1 many)
  too_long Document text many h = absurd (too_many_read h.0 h.1 many)
  too_long WriteFault text many h = absurd (too_many_read h.0 h.1 many)
  too_long OutOfMemory text many h = absurd (too_many_read h.0 h.1 many)

  stays : (s ended : Status) (text : List ℕ) → s ≡ TooLong → Gives s text sink sink' ended → ended ≡ TooLong
  stays s ended text is (inl h) = h.0 ∙ is
  stays s ended text is (inr h) = h.1 ∙ ap after_fault is

  too_many_here : (ended : Status) → IsAnsweredBy Answer old new sink sink' ended → document_limit < length bytes → IsUnlessOutOfMemory ended TooLong
  too_many_here ended (inl h) many = inr h.0
  too_many_here ended (inr h) many = inl (stays h.0 ended h.1 (too_long h.0 h.1 many h.2) h.3)

module _ (Answer : List ℕ → Status → List ℕ → Type 0) (old new : SourceState) (sink sink' : SinkState) (ended : Status) (answered : IsAnsweredBy Answer old new sink sink' ended) where
  pub exact : IsExactBy Answer old new sink sink' ended
  exact bytes u few = exact_here Answer old new sink sink' bytes u ended answered few

  pub too_many : ReportsTooMany old new sink sink' ended
  too_many bytes u many = too_many_here Answer old new sink sink' bytes u ended answered many

-- ---- a document whose two sets are accepted is compared

module _ (bytes : List ℕ) (d : EditDocument) (read : IsReadAs bytes (Ok d)) (accepted : AreAccepted d) where
  same_ok : (e : EditDocument) → IsReadAs bytes (Ok e) → d ≡ e
  same_ok e h = same (one_document d bytes read (Ok e) h)
    where
      same : ◌≡◌ {A = Result EditDocument EditFault} (Ok e) (Ok d) → d ≡ e
      same k = cc

  no_fault : (f : EditFault) → IsReadAs bytes (Err f) → ⊥
  no_fault f h = never (one_document d bytes read (Err f) h)
    where
      never : ◌≡◌ {A = Result EditDocument EditFault} (Err f) (Ok d) → ⊥
      never k = cc

  not_refused : (e : EditDocument) (text : List ℕ) → AreAccepted e → IsAnswerOn e Findings text → ⊥
  not_refused e text ok (inl h) = h.1.0 ok.0
  not_refused e text ok (inr h) = h.1.0 ok.1

  compared : (ended : Status) (text : List ℕ) → IsAnswerToBytes bytes ended text → ended ≡ Done
  compared Done text h = refl
  compared Findings text h = absurd (not_refused h.0 text (subst AreAccepted (same_ok h.0 h.1) accepted) h.2)
  compared Usage text h = absurd h.2
  compared Document text h = absurd (no_fault h.0 h.1)
  compared ReadFault text h = absurd h.2
  compared WriteFault text h = absurd h.2
  compared OutOfMemory text h = absurd h.2
  compared TooLong text h = absurd h.2

module _ (old new : SourceState) (sink sink' : SinkState) (ended : Status) (answered : IsAnswered old new sink sink' ended) where
  pub complete : IsComplete old new sink sink' ended
  complete bytes u few d read accepted = by (exact IsAnswerToBytes old new sink sink' ended answered bytes u few)
    where
      by : ((text : List ℕ) × IsAnswerToBytes bytes ended text × Appends sink.holds sink'.holds text) ⊎ (ended ≡ OutOfMemory) → IsUnlessOutOfMemory ended Done
      by (inl h) = inl (compared bytes d read accepted ended h.0 h.1)
      by (inr h) = inr h

-- ---- a document whose policies are accepted has its forbids looked at

-- bytes that are a document are no other one, and have no fault
module _ (once : OneReading) (bytes : List ℕ) (d : Json) where
  one_json : (r : Result Json Place) → IsJsonReadAs Whole bytes (Ok d) → IsJsonReadAs Whole bytes r → r ≡ Ok d
  unfolding IsJsonReadAs
  one_json r (inl h) g = let clash : ◌≡◌ {A = Result Json Place} (Ok d) (Err h.0) = h.2 in absurd (cc)
  one_json r (inr h) (inl g) = let clash : ◌≡◌ {A = Result Data Place} (Err g.0) (Ok h.0) = g.1 ∙ sym h.1 in absurd (cc)
  one_json r (inr h) (inr g) =
      let same : g.0 ≡ h.0 = value_once h.0 g.0 (g.1 ∙ sym h.1) in
      once Whole h.0 d r h.2 (subst (λ v. IsJsonRead Whole v r) same g.2)
    where
      value_once : (v w : Data) → ◌≡◌ {A = Result Data Place} (Ok w) (Ok v) → w ≡ v
      value_once v w k = cc

module _ (once : OneReading) (a : Assumed) (bytes : List ℕ) (d : Json) (read : IsJsonReadAs Whole bytes (Ok d)) (accepted : IsAccepted d.schema d.policies) where
  same_json : (e : Json) → IsJsonReadAs Whole bytes (Ok e) → d ≡ e
  same_json e h = same (one_json once bytes d (Ok e) read h)
    where
      same : ◌≡◌ {A = Result Json Place} (Ok e) (Ok d) → d ≡ e
      same k = cc

  no_place : (p : Place) → IsJsonReadAs Whole bytes (Err p) → ⊥
  no_place p h = never (one_json once bytes d (Err p) read h)
    where
      never : ◌≡◌ {A = Result Json Place} (Err p) (Ok d) → ⊥
      never k = cc

  looked_at : (ended : Status) (text : List ℕ) → IsForbidsAnswerTo a bytes ended text → ended ≡ Done
  looked_at Done text h = refl
  looked_at Findings text h = absurd (h.2.0 (subst (λ e. IsAccepted e.schema e.policies) (same_json h.0 h.1) accepted))
  looked_at Usage text h = absurd h.2
  looked_at Document text h = absurd (no_place h.0 h.1)
  looked_at ReadFault text h = absurd h.2
  looked_at WriteFault text h = absurd h.2
  looked_at OutOfMemory text h = absurd h.2
  looked_at TooLong text h = absurd h.2

module _ (once : OneReading) (a : Assumed) (old new : SourceState) (sink sink' : SinkState) (ended : Status) (answered : AreForbidsAnswered a old new sink sink' ended) where
  pub forbids_complete : AreForbidsComplete old new sink sink' ended
  forbids_complete bytes u few d read accepted = by (exact (IsForbidsAnswerTo a) old new sink sink' ended answered bytes u few)
    where
      by : ((text : List ℕ) × IsForbidsAnswerTo a bytes ended text × Appends sink.holds sink'.holds text) ⊎ (ended ≡ OutOfMemory) → IsUnlessOutOfMemory ended Done
      by (inl h) = inl (looked_at once a bytes d read accepted ended h.0 h.1)
      by (inr h) = inr h

-- ---- the answer to a document that was read, and to all the bytes

module _ (bytes : List ℕ) (d : EditDocument) (read : IsReadAs bytes (Ok d)) where
  pub to_bytes : (s : Status) (text : List ℕ) → IsAnswerOn d s text → IsAnswerToBytes bytes s text
  to_bytes Done text h = (d, read, h)
  to_bytes Findings text h = (d, read, h)
  to_bytes Usage text h = absurd h
  to_bytes Document text h = absurd h
  to_bytes ReadFault text h = absurd h
  to_bytes WriteFault text h = absurd h
  to_bytes OutOfMemory text h = absurd h
  to_bytes TooLong text h = absurd h

module _ (a : Assumed) (bytes : List ℕ) (d : Json) (read : IsJsonReadAs Whole bytes (Ok d)) where
  pub forbids_to_bytes : (s : Status) (text : List ℕ) → IsForbidsAnswerOn a d s text → IsForbidsAnswerTo a bytes s text
  forbids_to_bytes Done text h = (d, read, h)
  forbids_to_bytes Findings text h = (d, read, h)
  forbids_to_bytes Usage text h = absurd h
  forbids_to_bytes Document text h = absurd h
  forbids_to_bytes ReadFault text h = absurd h
  forbids_to_bytes WriteFault text h = absurd h
  forbids_to_bytes OutOfMemory text h = absurd h
  forbids_to_bytes TooLong text h = absurd h

pub never_usage : (c : Command) (bytes text : List ℕ) → answer_of c bytes Usage text → ⊥
never_usage Compare bytes text h = h.2
never_usage (FailOpen a) bytes text h = h.2

never_fault : (c : Command) (bytes text : List ℕ) → answer_of c bytes ReadFault text → ⊥
never_fault Compare bytes text h = h.2
never_fault (FailOpen a) bytes text h = h.2

never_long : (c : Command) (bytes text : List ℕ) → answer_of c bytes TooLong text → ⊥
never_long Compare bytes text h = h.2
never_long (FailOpen a) bytes text h = h.2

module _ (c : Command) (old new : SourceState) (bytes : List ℕ) (was : WasRead old new bytes) where
  pub to_source : (s : Status) (text : List ℕ) → answer_of c bytes s text → IsAnswerTo (answer_of c) old new s text
  to_source Done text h = (bytes, was, h)
  to_source Findings text h = (bytes, was, h)
  to_source Usage text h = (bytes, was, h)
  to_source Document text h = (bytes, was, h)
  to_source ReadFault text h = absurd (never_fault c bytes text h)
  to_source WriteFault text h = (bytes, was, h)
  to_source OutOfMemory text h = (bytes, was, h)
  to_source TooLong text h = absurd (never_long c bytes text h)

-- what was answered to the command that the words ask for
pub answered_to : (o : Option Command) (k c : Command) → o ≡ Some k → o ≡ Some c → (old new : SourceState) (sink sink' : SinkState) (ended : Status) →
    IsAnsweredBy (answer_of k) old new sink sink' ended → IsAnsweredBy (answer_of c) old new sink sink' ended
answered_to o k c e f old new sink sink' ended h = subst (λ m. IsAnsweredBy (answer_of m) old new sink sink' ended) (some_injective (sym e ∙ f)) h

-- the reply that is given is the answer
pub given : (Answer : List ℕ → Status → List ℕ → Type 0) (old new : SourceState) (sink sink' : SinkState) (r : Result Reply AllocError) (ended : Status) →
    IfOk r (λ r. IsAnswerTo Answer old new r.status (string_bytes r.text)) → Ends r sink sink' ended → IsAnsweredBy Answer old new sink sink' ended
given Answer old new sink sink' (Ok r) ended h e = inr (r.status, string_bytes r.text, h, e)
given Answer old new sink sink' (Err x) ended h e = inl e

-- policies that are not accepted are answered with what is found of them
pub forbids_refused : (a : Assumed) (d : Json) (found : Found) → (found ≡ findings_of d.schema d.policies) × ¬ IsAccepted d.schema d.policies → (r : Result Reply AllocError) →
    IfOk r (λ r. r.status ≡ status.Findings) → IfOk r (λ r. string_bytes r.text ≡ [] ++ findings_text found) → IfOk r (λ r. IsForbidsAnswerOn a d r.status (string_bytes r.text))
forbids_refused a d found is (Ok r) s t = subst (λ st. IsForbidsAnswerOn a d st (string_bytes r.text)) (sym s) (is.1, t ∙ ap findings_text is.0)
forbids_refused a d found is (Err x) s t = tt
