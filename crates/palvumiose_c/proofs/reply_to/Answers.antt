use Rattle.std.proofs.Common.{◌≡◌, ℕ, List, Some, drop, map, string_bytes, ap, subst, refl, sym, arith, ◌∙◌}
use Rattle.std.specs.Io.KnownBytes.{Appends}
use Rattle.byte_streams.specs.Document.{WasRead}
use Rattle.byte_streams.specs.Memory.{sink_state, slice_state}
use Rattle.json_document.specs.declared.document.Document.{Document}
use Rattle.policy_gate.specs.Command.{command_of, own_document}
use Rattle.policy_gate.specs.Headline.{HasDocument, HasPoliciesFor, IsBatch, IsChecked, IsCheckedAt, IsConforming, IsDecided, IsListed, IsLive, IsManifested, IsReviewed, IsSampled, IsSliced}
use Rattle.policy_gate.specs.Reply.{answer}
use Rattle.json_samples.specs.Sample.{sample_document}
use Rattle.policy_gate.specs.declared.command.Command.{Command}
use Rattle.policy_gate.specs.declared.command.Command.TheVariants.{Check, Level, Request, Manifest, Slice, Decide, Sample, Batch, Live, Review, List as Page}
use Rattle.palvumiose_c.specs.KnownText.{IsReported, words_in}
use Rattle.palvumiose_c.proofs.KnownText.{IsInMemory, given_by, known_from_runs, said_of_both, to_work_on, took_all, written}
use Rattle.palvumiose_c.proofs.reply_to.Goals as goal

in_memory : (c : goal.After-drop-words-2) → IsInMemory c.args.document.now c.run-status.new.sink.bytes.items (slice_state c.new-source.result) (slice_state c.run-status.new.source) (sink_state c.new-sink.result) (sink_state c.run-status.new.sink)
in_memory c = record {
  left = ap (λ n. Some (drop n c.new-source.result.bytes.now)) c.new-source.ensures.at ∙ ap Some c.new-source.ensures.bytes;
  sound = omega arith;
  empty = ap Some c.new-sink.ensures.bytes;
  full = refl;
  took = c.if-faults-gt0.false;
}

pub returns-clause-reported : goal.returns-clause-reported
returns-clause-reported c =
    subst (λ ws. IsReported (command_of ws) c.args.document.now (answer c.run-status.result c.run-status.new.sink.bytes.items)) c.in_ok-words.ensures
    (known_from_runs (in_memory c) _ _ c.run-status.ensures.written)

pub returns-clause-headline : goal.returns-clause-headline
returns-clause-headline c is ends =
    said_of_both (in_memory c) (λ bytes text. HasDocument Slice bytes (λ d. IsSliced d text))
    (c.run-status.ensures.headline (ap command_of c.in_ok-words.ensures ∙ is) ends)

-- the words are the command of the run
of_run : (c : goal.After-drop-words-2) (k : Command) → command_of (words_in c.args.command.now) ≡ Some k → command_of (map string_bytes c.in_ok-words.words.items) ≡ Some k
of_run c k is = ap command_of c.in_ok-words.ensures ∙ is

-- what is said of the document that was read, and of the text that was written
read : (c : goal.After-drop-words-2) (k : Command) (Is : Document → List ℕ → Type 0)
    → ((bytes : List ℕ) × (text : List ℕ) × WasRead (slice_state c.new-source.result) (slice_state c.run-status.new.source) bytes
    × HasDocument k bytes (λ d. Is d text) × Appends (sink_state c.new-sink.result).holds (sink_state c.run-status.new.sink).holds text)
    → HasDocument k c.args.document.now (λ d. Is d c.run-status.new.sink.bytes.items)
read c k Is = said_of_both (in_memory c) (λ bytes text. HasDocument k bytes (λ d. Is d text))

pub returns-clause-said : goal.returns-clause-said
returns-clause-said c ends Check is = read c Check IsChecked (c.run-status.ensures.checked (of_run c Check is) ends)
returns-clause-said c ends (Level n) is = read c (Level n) (IsCheckedAt n) (c.run-status.ensures.levelled n (of_run c (Level n) is) ends)
returns-clause-said c ends Request is = read c Request IsConforming (c.run-status.ensures.conforming (of_run c Request is) ends)
returns-clause-said c ends Manifest is = read c Manifest IsManifested (c.run-status.ensures.manifested (of_run c Manifest is) ends)
returns-clause-said c ends Slice is = read c Slice IsSliced (c.run-status.ensures.headline (of_run c Slice is) ends)
returns-clause-said c ends Decide is = read c Decide IsDecided (c.run-status.ensures.decided (of_run c Decide is) ends)
returns-clause-said c ends (Sample seed size) is =
    let (text, same, has, w) = c.run-status.ensures.sampled seed size (of_run c (Sample seed size) is) ends in
    subst (λ t. HasDocument (Sample seed size) (sample_document seed size) (λ d. IsSampled size d t)) (sym (written (in_memory c) text w)) has
returns-clause-said c ends Batch is = read c Batch IsBatch (c.run-status.ensures.batched (of_run c Batch is) ends)
returns-clause-said c ends Live is = read c Live IsLive (c.run-status.ensures.lived (of_run c Live is) ends)
returns-clause-said c ends Review is = read c Review IsReviewed (c.run-status.ensures.reviewed (of_run c Review is) ends)
returns-clause-said c ends (Page limit after) is = read c (Page limit after) (IsListed limit after) (c.run-status.ensures.listed limit after (of_run c (Page limit after) is) ends)

pub returns-clause-refused : goal.returns-clause-refused
returns-clause-refused c ends =
    let (k, worked) = c.run-status.ensures.refused ends in
    let (bytes, on, has) = worked in
    (k, sym (ap command_of c.in_ok-words.ensures) ∙ on.0, subst (λ b. HasDocument k b (λ d. ¬ HasPoliciesFor k d)) (sym (given_by (in_memory c) (own_document k) bytes on.1)) has)

pub returns-clause-complete : goal.returns-clause-complete
returns-clause-complete c k = c.run-status.ensures.complete (record {
  command = k.command;
  bytes = c.args.document.now;
  document = k.read;
  undisturbed = (ap command_of c.in_ok-words.ensures ∙ k.is, to_work_on (in_memory c) k.command k.reads k.few, took_all (in_memory c));
  is = k.of;
  rules = k.rules;
})
