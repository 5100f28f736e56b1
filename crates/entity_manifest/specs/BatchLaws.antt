-- Answers to many requests, by the store that the loader says and by its count of faults.
use Rattle.std.specs.Prelude.{List}
use Rattle.std.specs.List.{AllZip}
use Rattle.entity_store.specs.declared.request.Request.{Request}
use Rattle.entity_store.specs.Store.{Store}
use Rattle.policy_set.specs.Data.{PolicyData}
use Rattle.schema_core.specs.Schema.{SchemaData}
use Rattle.entity_loader.specs.State.{LoaderState}
use Rattle.entity_manifest.specs.declared.answer.BatchAnswer.{BatchAnswer}
use Rattle.manifest_computation.specs.Rules.{ReachedConform}
use Rattle.entity_manifest.specs.Loaded.{IsReported}
use Rattle.entity_manifest.specs.Answers.{AreLoaderAnswers, IsAnswerOrFault, AreCounted}

-- where the loader says a store, and the entities conform in it that a request reaches, the answer to the
-- request is that on this store, or a fault
abbrev pub AnswersAreWhole : Type 0
AnswersAreWhole =
    (schema : SchemaData) (ps : List PolicyData) (old new : LoaderState) (qs : List Request)
    (answers : List BatchAnswer) →
    AreLoaderAnswers schema ps old qs answers new → (w : Store) → IsReported old w →
    AllZip (λ q a. ReachedConform schema ps q w → IsAnswerOrFault schema ps w q a) qs answers

-- no more faults are answered than are counted
abbrev pub FaultsAreCounted : Type 0
FaultsAreCounted =
    (schema : SchemaData) (ps : List PolicyData) (old new : LoaderState) (qs : List Request)
    (answers : List BatchAnswer) →
    AreLoaderAnswers schema ps old qs answers new → AreCounted answers old.faults new.faults
