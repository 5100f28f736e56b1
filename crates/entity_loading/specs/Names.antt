-- What ancestors' tries name in what is kept of a store.
use Rattle.std.specs.Prelude.{◌≡◌, true, List, map}
use Rattle.std.specs.List.{list_any}
use Rattle.std.specs.BTreeMap.{BTreeMap, get}
use Rattle.policy_values.specs.declared.entity_uid.EntityUID.{EntityUID}
use Rattle.policy_values.specs.Uid.{uid_cmp}
use Rattle.entity_store.specs.declared.request.Request.{Request}
use Rattle.entity_store.specs.Store.{StoredEntity, Store, entity_at}
use Rattle.policy_values.specs.Value.{Val}
use Rattle.access_tries.specs.Paths.{AccessPath, edge_of, address_of}
use Rattle.access_tries.specs.Views.{ViewData, view_marks}
use Rattle.reads_spec.specs.Among.{IsIn}
use Rattle.reads_spec.specs.Paths.{Step}
use Rattle.reads_spec.specs.Restrict.{names_id, walk, reach}

-- the store has of each entity what is kept of it
abbrev pub IsKept : BTreeMap EntityUID StoredEntity → Store → Type 0
IsKept kept s = (x : EntityUID) → entity_at s x ≡ get uid_cmp kept x

-- a marked path of the ancestors' tries at the node leads to the id, or to a set with it
pub record IsNamed (t : ViewData) (q : Request) (s : Store) (y : EntityUID) : Type 0 where
  pub path : AccessPath
  pub marked : view_marks t (address_of path) ≡ true
  pub named : list_any (names_id y) (reach s q path) ≡ true

-- marked steps from the node lead from the value to the id, or to a set with it
pub record Names (s : Store) (v : Val) (t : ViewData) (y : EntityUID) : Type 0 where
  pub steps : List Step
  pub marked : view_marks t (map edge_of steps) ≡ true
  pub named : list_any (names_id y) (walk s v steps) ≡ true

-- so do they from some of the values
pub record SomeNames (s : Store) (vs : List Val) (t : ViewData) (y : EntityUID) : Type 0 where
  pub value : Val
  pub among : IsIn value vs
  pub names : Names s value t y
