-- Answers by rows, which never stray.
use Rattle.std.proofs.Common.{◌≡◌, ℕ, ◌≤◌, List, [], ◌∷◌, Option, Some, None, refl, arith, inl, inr}
use Rattle.std.specs.Prelude.{IfSome}
use Rattle.std.specs.List.{AllZip}
use Rattle.byte_streams.specs.Steps.{Rose}
use Rattle.entity_store.specs.declared.request.Request.{Request}
use Rattle.entity_store.specs.Store.{Store}
use Rattle.policy_set.specs.Data.{PolicyData}
use Rattle.policy_set.specs.Response.{response}
use Rattle.schema_core.specs.Schema.{SchemaData}
use Rattle.entity_loader.specs.State.{LoaderState, Continues}
use Rattle.entity_loading.specs.declared.error.EntitySliceError.TheVariants as error
use Rattle.table_loader.specs.Laws.{IsStoreOrdered}
use Rattle.manifest_computation.specs.Rules.{ReachedConform}
use Rattle.entity_manifest.specs.declared.answer.BatchAnswer.{BatchAnswer}
use Rattle.entity_manifest.specs.declared.answer.BatchAnswer.TheVariants.{Partial, Refused, Loading, Decided}
use Rattle.entity_manifest.specs.Loaded.{IsReported}
use Rattle.entity_manifest.specs.Answers.{IsLoaderAnswer, AreLoaderAnswers, IsRowAnswer}
use Rattle.entity_manifest.proofs.OneAfterAnother.{goes_on}

-- a loader that never strayed did not stray before
no_stray : {R : Type 0} (a b c : ℕ) → c ≡ 0 → b ≤ c → Rose a b → R
no_stray a b c none below (inl more) = absurd (omega (arith, none, below, more))
no_stray a b c none below (inr last) = absurd (omega (arith, none, below, last))

module _ (schema : SchemaData) (ps : List PolicyData) (o : Option Store) (ordered : (w : Store) → o ≡ Some w → IsStoreOrdered w) where
  -- a state says the store at least
  abbrev Reports : LoaderState → Type 0
  Reports l = (w : Store) → o ≡ Some w → l.store ≡ Some w

  module _ (old mid new : LoaderState) (tells : Reports old) (none : new.strays ≡ 0) (on : Continues mid new) (q : Request) where
    known : (w : Store) → o ≡ Some w → IsReported old w
    known w is = record { known = tells w is; order = ordered w is }

    row_answer : (a : BatchAnswer) → IsLoaderAnswer schema ps old mid q a → IsRowAnswer schema ps o q a
    row_answer Partial h = h
    row_answer (Refused e) h = h
    row_answer (Decided r) h = (h.0, h.1, by o refl)
      where
        by : (p : Option Store) → o ≡ p → IfSome p (λ w. ReachedConform schema ps q w → r ≡ response ps q w)
        by None is = tt
        by (Some w) is = λ stored. h.2 w (known w is) stored
    row_answer (Loading error.LoaderFault) h = (h.0, h.1, tt)
    row_answer (Loading (error.IncompatibleEntityManifest e)) h = (h.0, h.1, by o refl)
      where
        by : (p : Option Store) → o ≡ p → IfSome p (λ w. ¬ ReachedConform schema ps q w)
        by None is = tt
        by (Some w) is = h.2 w (known w is)
    row_answer (Loading (error.InconsistentLoader uid kept got)) h = (h.0, h.1, by o refl)
      where
        by : (p : Option Store) → o ≡ p → o ≡ None
        by None is = is
        by (Some w) is = absurd (h.2 w (known w is))
    row_answer (Loading (error.WrongNumberOfEntities e)) h = no_stray old.strays mid.strays new.strays none on.strays h.2.0
    row_answer (Loading (error.WrongNumberOfAncestors n k)) h = no_stray old.strays mid.strays new.strays none on.strays h.2.0
    row_answer (Loading (error.PartialRequest e)) h = absurd h.2
    row_answer (Loading error.OutOfMemory) h = absurd h.2

  pub row_answers : (old new : LoaderState) (qs : List Request) (answers : List BatchAnswer) → Reports old → new.strays ≡ 0 →
      AreLoaderAnswers schema ps old qs answers new → AllZip (IsRowAnswer schema ps o) qs answers
  row_answers old new [] [] tells none h = tt
  row_answers old new (q ∷ qs) (a ∷ answers) tells none h = (
    row_answer old h.0 new tells none (goes_on schema ps h.0 new qs answers h.3) q a h.2,
    row_answers h.0 new qs answers (λ w is. h.1.known w (tells w is)) none h.3,
  )
  row_answers old new [] (a ∷ answers) tells none h = absurd h
  row_answers old new (q ∷ qs) [] tells none h = absurd h
