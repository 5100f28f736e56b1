-- Answers where the loader says a store that conforms where it is reached.
use Rattle.std.proofs.Common.{List, [], ◌∷◌, refl}
use Rattle.std.specs.List.{AllZip}
use Rattle.entity_store.specs.declared.request.Request.{Request}
use Rattle.entity_store.specs.Store.{Store}
use Rattle.policy_set.specs.Data.{PolicyData}
use Rattle.schema_core.specs.Schema.{SchemaData}
use Rattle.entity_loader.specs.State.{LoaderState, Continues}
use Rattle.entity_loading.specs.declared.error.EntitySliceError.TheVariants as error
use Rattle.entity_manifest.specs.declared.answer.BatchAnswer.{BatchAnswer}
use Rattle.entity_manifest.specs.declared.answer.BatchAnswer.TheVariants.{Partial, Refused, Loading, Decided}
use Rattle.manifest_computation.specs.Rules.{ReachedConform}
use Rattle.entity_manifest.specs.Loaded.{IsReported}
use Rattle.entity_manifest.specs.Answers.{IsLoaderAnswer, AreLoaderAnswers, IsAnswerOrFault}
use Rattle.entity_manifest.specs.BatchLaws.{AnswersAreWhole}

pub still_known : (old mid : LoaderState) (w : Store) → Continues old mid → IsReported old w → IsReported mid w
still_known old mid w on known = record { known = on.known w known.known; order = known.order }

module _ (schema : SchemaData) (ps : List PolicyData) (w : Store) where
  whole_answer : (old mid : LoaderState) → IsReported old w → (q : Request) (a : BatchAnswer) → IsLoaderAnswer schema ps old mid q a →
      ReachedConform schema ps q w → IsAnswerOrFault schema ps w q a
  whole_answer old mid known q Partial h stored = h
  whole_answer old mid known q (Refused e) h stored = h
  whole_answer old mid known q (Decided r) h stored = (h.0, h.1, h.2 w known stored)
  whole_answer old mid known q (Loading error.LoaderFault) h stored = (h.0, h.1, refl)
  whole_answer old mid known q (Loading (error.IncompatibleEntityManifest e)) h stored = absurd (h.2 w known stored)
  whole_answer old mid known q (Loading (error.InconsistentLoader uid kept got)) h stored = absurd (h.2 w known)
  whole_answer old mid known q (Loading (error.WrongNumberOfEntities e)) h stored = absurd (h.2.1 w known)
  whole_answer old mid known q (Loading (error.WrongNumberOfAncestors n k)) h stored = absurd (h.2.1 w known)
  whole_answer old mid known q (Loading (error.PartialRequest e)) h stored = absurd h.2
  whole_answer old mid known q (Loading error.OutOfMemory) h stored = absurd h.2

  all_whole : (old new : LoaderState) (qs : List Request) (answers : List BatchAnswer) → AreLoaderAnswers schema ps old qs answers new →
      IsReported old w → AllZip (λ q a. ReachedConform schema ps q w → IsAnswerOrFault schema ps w q a) qs answers
  all_whole old new [] [] h known = tt
  all_whole old new (q ∷ qs) (a ∷ answers) h known =
      (whole_answer old h.0 known q a h.2, all_whole h.0 new qs answers h.3 (still_known old h.0 w h.1 known))
  all_whole old new [] (a ∷ answers) h known = absurd h
  all_whole old new (q ∷ qs) [] h known = absurd h

pub are_whole : AnswersAreWhole
are_whole schema ps old new qs answers h w known = all_whole schema ps w old new qs answers h known
