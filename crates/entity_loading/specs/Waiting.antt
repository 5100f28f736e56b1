-- What waits at nodes, and is still to be followed there.
use Rattle.std.specs.Prelude.{◌≡◌, ◌↔◌, ◌⊎◌, ℕ, ◌<◌, ◌≤◌, Bool, true, false, ◌&&◌, ◌||◌, length, is_some}
use Rattle.std.specs.BTreeMap.{BTreeMap, get}
use Rattle.std.specs.BTreeSet.{BTreeSet, contains}
use Rattle.std.specs.Option.{option_map_or}
use Rattle.std.specs.Ordering.{is_eq, nat_cmp}
use Rattle.policy_values.specs.declared.entity_uid.EntityUID.{EntityUID}
use Rattle.policy_values.specs.Uid.{uid_cmp, uid_eq}
use Rattle.entity_store.specs.Store.{Store}
use Rattle.policy_values.specs.Value.{entity}
use Rattle.access_tries.specs.Table.{Table}
use Rattle.access_tries.specs.Views.{ViewData}
use Rattle.entity_loading.specs.Names.{Names}

-- for each number of a node the ids of entities that are still to be followed there
abbrev pub Waiting : Type 0
Waiting = BTreeMap ℕ (BTreeSet EntityUID)

abbrev pub waits : Waiting → ℕ → EntityUID → Bool
waits w n x = option_map_or (λ ids. contains uid_cmp ids x) (get nat_cmp w n) false

-- one id more waits at the node
pub record Waits (n : ℕ) (x : EntityUID) (old new : Waiting) : Type 0 where
  pub tests : (m : ℕ) (y : EntityUID) → waits new m y ≡ (waits old m y || (is_eq (nat_cmp n m) && uid_eq x y))
  pub keys : (m : ℕ) → is_some (get nat_cmp new m) ≡ (is_some (get nat_cmp old m) || is_eq (nat_cmp n m))

-- whatever waits, waits at a node of the table from this number on
abbrev pub WaitFrom : ℕ → Table → Waiting → Type 0
WaitFrom k ns w = (n : ℕ) → is_some (get nat_cmp w n) ≡ true → (k ≤ n) × (n < length ns)

-- marked steps lead to the id from an entity that waits
pub record WaitingNames (s : Store) (ns : Table) (w : Waiting) (y : EntityUID) : Type 0 where
  pub number : ℕ
  pub id : EntityUID
  pub waiting : waits w number id ≡ true
  pub names : Names s (entity id) (record { nodes = ns; number = number }) y

abbrev pub Has : BTreeSet EntityUID → EntityUID → Type 0
Has ids y = contains uid_cmp ids y ≡ true

-- the id is there, or is named from what waits at nodes of the same table
abbrev pub Gives : Store → ViewData → BTreeSet EntityUID → Waiting → EntityUID → Type 0
Gives s t ids w y = Has ids y ⊎ WaitingNames s t.nodes w y

-- the second has what the first has, this, and nothing else
pub record Adds (P old new : EntityUID → Type 0) : Type 0 where
  pub each : (y : EntityUID) → new y ↔ (old y ⊎ P y)
