-- What is written of an answer, and what is counted with it.
use Rattle.std.proofs.Common.{◌≡◌, List, ℕ, Option, Result, Ok, Err, IfOk, String, Global, refl, subst, sym}
use Rattle.std.specs.Prelude.{◌≢◌, string_bytes}
use Rattle.byte_streams.specs.Steps.{RoseBy}
use Rattle.entity_store.specs.declared.request.Request.{Request}
use Rattle.entity_store.specs.Request.{IsWhole}
use Rattle.entity_store.specs.Store.{Store}
use Rattle.policy_set.specs.Data.{PolicyData}
use Rattle.schema_core.specs.Schema.{SchemaData}
use Rattle.typing_spec.specs.Conforms.{RequestConforms}
use Rattle.entity_manifest.specs.Answers.{is_fault}
use Rattle.entity_manifest.specs.declared.EntitySliceError.TheVariants as error
use Rattle.entity_manifest.specs.declared.answer.BatchAnswer.{BatchAnswer}
use Rattle.entity_manifest.specs.declared.answer.BatchAnswer.TheVariants.{Partial, Refused, Loading, Decided}
use Rattle.byte_streams.proofs.Served.{rose_none}
use Rattle.directory_service.specs.Attempts.{OfStore}
use Rattle.directory_service.specs.Lines.{IsRequestLine}
use Rattle.directory_service.specs.Rows.{IsRowAnswer, row_faults, row_line}
use Rattle.directory_service.specs.declared.row_fault.RowAnswer.{RowAnswer}
use Rattle.directory_service.specs.declared.row_fault.RowAnswer.TheVariants.{Answer, Row}
use Rattle.directory_service.specs.declared.requests.LineRequest.{LineRequest}
use Rattle.directory_service.specs.declared.requests.LineRequest.TheVariants as line

-- an answer that is no fault counts none
pub no_fault_quiet : (a : BatchAnswer) (n : ℕ) → a ≢ Loading error.LoaderFault → RoseBy (is_fault a) n n
no_fault_quiet Partial n h = rose_none n
no_fault_quiet (Refused e) n h = rose_none n
no_fault_quiet (Decided r) n h = rose_none n
no_fault_quiet (Loading error.LoaderFault) n h = absurd (h refl)
no_fault_quiet (Loading error.OutOfMemory) n h = rose_none n
no_fault_quiet (Loading (error.IncompatibleEntityManifest e)) n h = rose_none n
no_fault_quiet (Loading (error.InconsistentLoader uid kept got)) n h = rose_none n
no_fault_quiet (Loading (error.WrongNumberOfEntities e)) n h = rose_none n
no_fault_quiet (Loading (error.WrongNumberOfAncestors k m)) n h = rose_none n
no_fault_quiet (Loading (error.PartialRequest e)) n h = rose_none n

-- an answer that is a fault is one to a whole request that conforms
pub fault_answers : (schema : SchemaData) (ps : List PolicyData) (w : Store) (q : Request) (a : RowAnswer) → row_faults a ≡ 1 → IsWhole q → RequestConforms schema q → IsRowAnswer schema ps w q a
fault_answers schema ps w q (Row fault) h whole conforms = (whole, conforms)
fault_answers schema ps w q (Answer (Loading error.LoaderFault)) h whole conforms = (whole, conforms, refl)
fault_answers schema ps w q (Answer Partial) h whole conforms = absurd (cc)
fault_answers schema ps w q (Answer (Refused e)) h whole conforms = absurd (cc)
fault_answers schema ps w q (Answer (Decided r)) h whole conforms = absurd (cc)
fault_answers schema ps w q (Answer (Loading error.OutOfMemory)) h whole conforms = absurd (cc)
fault_answers schema ps w q (Answer (Loading (error.IncompatibleEntityManifest e))) h whole conforms = absurd (cc)
fault_answers schema ps w q (Answer (Loading (error.InconsistentLoader uid kept got))) h whole conforms = absurd (cc)
fault_answers schema ps w q (Answer (Loading (error.WrongNumberOfEntities e))) h whole conforms = absurd (cc)
fault_answers schema ps w q (Answer (Loading (error.WrongNumberOfAncestors k m))) h whole conforms = absurd (cc)
fault_answers schema ps w q (Answer (Loading (error.PartialRequest e))) h whole conforms = absurd (cc)

-- the line on an answer of which something holds
pub known_line : {E : Type 0} (r : Result (String Global) E) (P Q : RowAnswer → Type 0) (a : RowAnswer) → P a → Q a → IfOk r (λ s. string_bytes s ≡ row_line a)
    → IfOk r (λ s. (b : RowAnswer) × P b × Q b × (string_bytes s ≡ row_line b))
known_line (Ok s) P Q a p q is = (a, p, q, is)
known_line (Err e) P Q a p q is = tt

module _ (schema : SchemaData) (ps : List PolicyData) (told : Option Store) (from to : ℕ) (l : LineRequest) where
  -- what is known of the line, with what is counted
  abbrev IsReported : List ℕ → Type 0
  IsReported text = (n : ℕ) × OfStore schema told (λ w. IsRequestLine schema ps w n l text) × RoseBy n from to

  -- a request
  pub request_known : {E : Type 0} (q : Request) (r : Result (String Global) E) → l ≡ line.Request q →
      IfOk r (λ s. (a : RowAnswer) × OfStore schema told (λ w. IsRowAnswer schema ps w q a) × RoseBy (row_faults a) from to × (string_bytes s ≡ row_line a)) →
      IfOk r (λ s. IsReported (string_bytes s))
  request_known q (Ok s) is h =
      (row_faults h.0, λ w t conforms. subst (λ m. IsRequestLine schema ps w (row_faults h.0) m (string_bytes s)) (sym is) (h.0, h.1 w t conforms, refl, h.3), h.2)
  request_known q (Err e) is h = tt

  -- no request
  pub refusal_known : {E : Type 0} (refused : LineRequest) (text : List ℕ) (r : Result (String Global) E) → l ≡ refused → RoseBy 0 from to → ((w : Store) → IsRequestLine schema ps w 0 refused text) →
      IfOk r (λ s. string_bytes s ≡ text) → IfOk r (λ s. IsReported (string_bytes s))
  refusal_known refused text (Ok s) is rose h same =
      (0, λ w t conforms. subst (λ m. IsRequestLine schema ps w 0 m (string_bytes s)) (sym is) (subst (IsRequestLine schema ps w 0 refused) (sym same) (h w)), rose)
  refusal_known refused text (Err e) is rose h same = tt
