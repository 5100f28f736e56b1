-- Values that a path of a trie reaches and cannot go on from.
use Rattle.std.specs.Prelude.{◌≡◌, ◌⊎◌, Bool, true, false, Some}
use Rattle.policy_values.specs.declared.entity_uid.EntityUID.{EntityUID}
use Rattle.entity_store.specs.declared.request.Request.{Request}
use Rattle.entity_store.specs.Store.{StoredEntity, Store, entity_at}
use Rattle.policy_values.specs.Value.{Val}
use Rattle.access_tries.specs.Edges.{Address}
use Rattle.access_tries.specs.Table.{Table}
use Rattle.entity_loading.specs.Begun.{SomeRootBlocks}
use Rattle.entity_loading.specs.CannotGoOn.{EntityBlocks}
use Rattle.entity_loading.specs.Needs.{Test}
use Rattle.entity_loading.specs.Reached.{IsReached}

-- in an entity of the store a value stands from which paths that reach the entity cannot go on
pub record IsBlockedInStore (ns : Table) (q : Request) (s : Store) (u : Val) : Type 0 where
  pub id : EntityUID
  pub stored : StoredEntity
  pub at : entity_at s id ≡ Some stored
  pub below : Bool → Test
  pub reached : (b : Bool) (a : Address) → below b a ≡ true → IsReached b ns q s id a
  pub sticks : EntityBlocks stored (record { leads = below false; marks = below true }) u

-- or in the value of a root one from which paths that begin there cannot
abbrev pub IsBlocked : Table → Request → Store → Val → Type 0
IsBlocked ns q s u = SomeRootBlocks ns q u ⊎ IsBlockedInStore ns q s u
