-- What a loader may answer.
use Rattle.std.specs.Prelude.{◌≡◌, true, Bool, List, Contains, Option, Some, None, IsSomeAnd}
use Rattle.std.specs.declared.vec.Vec.{Vec}
use Rattle.std.specs.declared.alloc.Global.{Global}
use Rattle.policy_values.specs.declared.entity_uid.EntityUID.{EntityUID}
use Rattle.entity_store.specs.Store.{StoredEntity, Store, entity_at}
use Rattle.reads_spec.specs.Paths.{Chain}
use Rattle.reads_spec.specs.Restrict.{Keep, cut_entity}
use Rattle.entity_loader.specs.declared.loader.EntityRequest.{EntityRequest}
use Rattle.entity_loader.specs.declared.loader.AncestorsRequest.{AncestorsRequest}
use Rattle.entity_loader.specs.Asked.{asked}

-- absent, or of the id that was asked for
abbrev pub Fits : EntityRequest → Option StoredEntity → Type 0
Fits r None = Unit {0}
Fits r (Some e) = e.uid ≡ r.entity_id

-- what some choice leaves of the entity of the store, that has at least what is asked; where the loader is
-- exact, just that
pub record IsHonestEntity (exact : Bool) (s : Store) (r : EntityRequest) (e : StoredEntity) : Type 0 where
  pub stored : StoredEntity
  pub at : entity_at s r.entity_id ≡ Some stored
  pub keep : Keep
  pub is : e ≡ cut_entity keep stored
  pub chains : (c : Chain) → (asked r.access_trie).chains stored.uid c ≡ true →
      keep.chains stored.uid c ≡ true
  pub tags : (c : Chain) → (asked r.access_trie).tags stored.uid c ≡ true → keep.tags stored.uid c ≡ true
  pub exactly : exact ≡ true → e ≡ cut_entity (asked r.access_trie) stored

-- absent where the store has no such entity
abbrev pub IsHonest : Bool → Store → EntityRequest → Option StoredEntity → Type 0
IsHonest exact s r None = entity_at s r.entity_id ≡ None
IsHonest exact s r (Some e) = IsHonestEntity exact s r e

-- the entity x of the store has the ancestor y
abbrev pub HasAncestor : Store → EntityUID → EntityUID → Type 0
HasAncestor s x y = IsSomeAnd (entity_at s x) (λ e. Contains e.ancestors y)

-- ancestors that the entity has in the store, and at least those that are asked for; where the loader is
-- exact, just these
pub record IsHonestList (exact : Bool) (s : Store)
    (r : AncestorsRequest) (ys : Vec EntityUID Global) : Type 0 where
  pub enough : (y : EntityUID) → Contains r.ancestors.items y →
      HasAncestor s r.entity_id y → Contains ys.items y
  pub given : (y : EntityUID) → Contains ys.items y → HasAncestor s r.entity_id y
  pub exactly : exact ≡ true → (y : EntityUID) → Contains ys.items y → Contains r.ancestors.items y

-- the ids that are both among the first and among the second
pub record IsListed (first second found : List EntityUID) : Type 0 where
  pub enough : (y : EntityUID) → Contains second y → Contains first y → Contains found y
  pub in_first : (y : EntityUID) → Contains found y → Contains first y
  pub in_second : (y : EntityUID) → Contains found y → Contains second y
