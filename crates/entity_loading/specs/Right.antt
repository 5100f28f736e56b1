-- Why loading is refused of a loader that says its store.
use Rattle.std.specs.Prelude.{◌≡◌, ◌⊎◌, Bool, true, false, List, Some, Result, IfErr}
use Rattle.byte_streams.specs.Steps.{Rose}
use Rattle.policy_values.specs.declared.entity_uid.EntityUID.{EntityUID}
use Rattle.entity_store.specs.declared.request.Request.{Request}
use Rattle.entity_store.specs.Store.{StoredEntity, Store, entity_at}
use Rattle.policy_values.specs.Value.{Val}
use Rattle.access_tries.specs.Edges.{Address}
use Rattle.access_tries.specs.Table.{Table}
use Rattle.reads_spec.specs.Restrict.{Keep, cut_entity}
use Rattle.entity_loading.specs.Answered.{SomeAnswerBlocks}
use Rattle.entity_loading.specs.Begun.{SomeRootBlocks}
use Rattle.entity_loading.specs.CannotGoOn.{EntityBlocks}
use Rattle.entity_loading.specs.Needs.{Test}
use Rattle.entity_loading.specs.declared.place.Place.{Place}
use Rattle.entity_loader.specs.State.{LoaderState}
use Rattle.entity_loading.specs.Causes.{IsRight}
use Rattle.entity_loading.specs.Keeping.{Found, AreNotKept}
use Rattle.entity_loading.specs.Ordered.{WhereKeysAscend}
use Rattle.entity_loading.specs.Reached.{IsReached}
use Rattle.entity_loading.specs.Rounds.{AreHonestAt, Sticks}
use Rattle.entity_loading.specs.declared.error.EntitySliceError.{EntitySliceError}
use Rattle.entity_loading.specs.declared.error.EntitySliceError.TheVariants as error

-- in a part of an entity of the store a value stands from which a path of the trie, that reaches the entity,
-- cannot go on
pub record CannotStep (ns : Table) (q : Request) (s : Store) (u : Val) : Type 0 where
  pub id : EntityUID
  pub stored : StoredEntity
  pub at : entity_at s id ≡ Some stored
  pub keep : Keep
  pub below : Bool → Test
  pub reached : (b : Bool) (a : Address) → below b a ≡ true → IsReached b ns q s id a
  pub sticks : EntityBlocks (cut_entity keep stored) (record { leads = below false; marks = below true }) u

-- a path of the trie cannot go on from the value, which stands in a root or in some entity
abbrev pub RootOrEntityBlocks : Table → Request → Val → Type 0
RootOrEntityBlocks t q v = SomeRootBlocks t q v ⊎ Sticks t v

-- a path of the trie cannot go on from the value, which stands in a root or in an entity that paths reach
abbrev pub BlocksAt : Table → Request → Store → Val → Type 0
BlocksAt t q s v = SomeRootBlocks t q v ⊎ CannotStep t q s v

-- a loader that says its store, where keys ascend there, is refused for such a value, a fault that rose or
-- memory alone
abbrev pub IsRefusedRightly :
    Table → Request → LoaderState → LoaderState → Result Store EntitySliceError → Type 0
IsRefusedRightly t q old new result =
    WhereKeysAscend old (λ s. IfErr result (IsRight (BlocksAt t q s) old new))

-- why a round is refused: honest answers lead nowhere on, or do not merge with what is kept, or the loader
-- failed
abbrev pub IsRoundError : Bool → Store → Table → List Place →
    Found → LoaderState → LoaderState → EntitySliceError → Type 0
IsRoundError exact s ns ps kept old new (error.IncompatibleEntityManifest e) =
    (found : Found) × AreHonestAt exact s ns ps found × SomeAnswerBlocks ns found ps e.value
IsRoundError exact s ns ps kept old new (error.InconsistentLoader u k d) =
    (found : Found) × AreHonestAt exact s ns ps found × AreNotKept kept found (error.InconsistentLoader u k d)
IsRoundError exact s ns ps kept old new error.LoaderFault = Rose old.faults new.faults
IsRoundError exact s ns ps kept old new error.OutOfMemory = Unit {0}
IsRoundError exact s ns ps kept old new e = ⊥

-- a loader that says this store is refused in a round
abbrev pub RoundIsRefused :
    Store → Table → List Place → Found → LoaderState → LoaderState → EntitySliceError → Type 0
RoundIsRefused s ns ps kept old new e = IsRoundError old.exact s ns ps kept old new e
