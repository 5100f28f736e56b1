-- Ancestors of what is kept.
use Rattle.std.specs.Prelude.{◌≡◌, ◌⊎◌, Bool, true, false, ◌&&◌, ◌||◌, List, [], ◌∷◌, Some, is_some}
use Rattle.std.specs.BTreeMap.{BTreeMap, get}
use Rattle.std.specs.List.{list_any}
use Rattle.std.specs.List.Sorted.{IsStrictlySortedBy}
use Rattle.std.specs.declared.vec.Vec.{Vec}
use Rattle.std.specs.declared.alloc.Global.{Global}
use Rattle.policy_values.specs.declared.entity_uid.EntityUID.{EntityUID}
use Rattle.policy_values.specs.Uid.{uid_cmp, uid_eq}
use Rattle.policy_core.specs.Operators.{above}
use Rattle.entity_store.specs.declared.request.Request.{Request}
use Rattle.entity_store.specs.Store.{StoredEntity, Store}
use Rattle.access_tries.specs.Paths.{AccessPath, address_of}
use Rattle.access_tries.specs.Table.{Table}
use Rattle.reads_spec.specs.Restrict.{names_id, reach}
use Rattle.entity_loading.specs.Needs.{needs}
use Rattle.entity_loading.specs.declared.place.Place.{Place}
use Rattle.entity_loader.specs.Answers.{HasAncestor}
use Rattle.entity_loader.specs.declared.loader.AncestorsRequest.{AncestorsRequest}
use Rattle.entity_loading.specs.Keeping.{Found}
use Rattle.entity_loading.specs.declared.rounds.Loaded.{Loaded}

-- whether the id is among these
abbrev pub lists : List EntityUID → EntityUID → Bool
lists ids y = list_any (uid_eq y) ids

-- whether some request asks for the ancestor of the entity
abbrev pub asks : List AncestorsRequest → EntityUID → EntityUID → Bool
asks rs x y = list_any (λ r. uid_eq r.entity_id x && lists r.ancestors.items y) rs

-- whether it is in the list that came for such a request
abbrev pub brings : List AncestorsRequest → List (Vec EntityUID Global) → EntityUID → EntityUID → Bool
brings [] ls x y = false
brings (r ∷ rs) [] x y = false
brings (r ∷ rs) (l ∷ ls) x y = (uid_eq r.entity_id x && lists l.items y) || brings rs ls x y

-- the ancestors' tries, where the entity was asked for, name the ancestor in the store
pub record IsAskedFor (ns : Table) (q : Request) (asked : List Place)
    (t : Store) (x y : EntityUID) : Type 0 where
  pub path : AccessPath
  pub marked : needs true ns asked x (address_of path) ≡ true
  pub named : list_any (names_id y) (reach t q path) ≡ true

-- ancestors ascend
abbrev pub AreAscending : Found → Type 0
AreAscending f = (x : EntityUID) (e : StoredEntity) → f x ≡ Some e → IsStrictlySortedBy uid_cmp e.ancestors

-- what is kept of entities has these ancestors more, and no others; where ancestors ascended, they do
pub record HasMore (more : EntityUID → EntityUID → Bool) (old new : Found) : Type 0 where
  pub each : (x y : EntityUID) → above (new x) y ≡ (above (old x) y || (is_some (old x) && more x y))
  pub ascending : AreAscending old → AreAscending new

-- at least those ancestors of the store that are asked for, and no others than those of the store; where the
-- loader is exact, no others than those that are asked for
pub record IsJoined (exact : Bool) (s : Store)
    (asked_for : EntityUID → EntityUID → Type 0) (old new : Found) : Type 0 where
  pub enough : (x y : EntityUID) → is_some (old x) ≡ true →
      asked_for x y → HasAncestor s x y → above (new x) y ≡ true
  pub given : (x y : EntityUID) → above (new x) y ≡ true → (above (old x) y ≡ true) ⊎ HasAncestor s x y
  pub exactly : exact ≡ true → (x y : EntityUID) → above (new x) y ≡ true →
      (above (old x) y ≡ true) ⊎ asked_for x y

-- the same after the rounds, where what is kept is all of a store, and those ancestors are asked for that the
-- places' tries name in it
abbrev pub AreJoined :
    Bool → Store → Table → Request → Loaded → Store → BTreeMap EntityUID StoredEntity → Type 0
AreJoined exact s ns q loaded t found =
    IsJoined exact s (IsAskedFor ns q loaded.asked.keys t) (get uid_cmp loaded.kept) (get uid_cmp found)
