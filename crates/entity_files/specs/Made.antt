-- The store that is made of entities with their parents, computed.
use Rattle.std.specs.Prelude.{◌≡◌, ◌↔◌, Bool, true, false, not, ◌&&◌, ◌||◌, List, [], ◌∷◌, filter, map, if◌then◌else◌, Option, Some, None, is_some}
use Rattle.std.specs.List.{list_all}
use Rattle.std.specs.Option.{option_map_or}
use Rattle.policy_values.specs.Keyed.{with_value}
use Rattle.policy_values.specs.Reaches.{has}
use Rattle.policy_values.specs.Uid.{uid_cmp}
use Rattle.policy_values.specs.declared.entity_uid.EntityUID.{EntityUID}
use Rattle.entity_store.specs.Store.{StoredEntity, Store, entity_at}
use Rattle.entity_store.specs.FromParents.{IsFromParents}

-- the values of a list put in their places by their ids
abbrev pub all_placed : {V : Type 0} → (V → EntityUID) → List V → List V → List V
all_placed id [] rest = rest
all_placed id (v ∷ vs) rest = with_value uid_cmp id v (all_placed id vs rest)

-- the ids that entities list, ascending
abbrev pub listed_ids : List StoredEntity → List EntityUID
listed_ids [] = []
listed_ids (e ∷ es) = all_placed (λ u. u) e.ancestors (listed_ids es)

-- whether the entity with the id x lists y
abbrev pub lists : List StoredEntity → EntityUID → EntityUID → Bool
lists es x y = option_map_or (λ e. has uid_cmp e.ancestors y) (entity_at es x) false

-- whether y is reached from x by what entities list, where those of `between` alone may stand between
abbrev pub is_reached : List StoredEntity → List StoredEntity → EntityUID → EntityUID → Bool
is_reached es [] x y = lists es x y
is_reached es (e ∷ between) x y =
    is_reached es between x y || (is_reached es between x e.uid && is_reached es between e.uid y)

-- the entity with all ids that are reached from it
abbrev pub with_reached : List StoredEntity → StoredEntity → StoredEntity
with_reached es e = record e { ancestors = filter (is_reached es es e.uid) (listed_ids es) }

-- no two entities have one id
abbrev pub are_different : List StoredEntity → Bool
are_different [] = true
are_different (e ∷ es) = not (is_some (entity_at es e.uid)) && are_different es

-- none is its own ancestor
abbrev pub have_no_cycle : List StoredEntity → Bool
have_no_cycle es = list_all (λ e. not (is_reached es es e.uid e.uid)) es

-- the store of entities with their parents, where no two have one id and none is its own ancestor: each with
-- all ids that are reached from it, ascending by id
abbrev pub made_of : List StoredEntity → Option Store
made_of es =
    if are_different es && have_no_cycle es then Some (all_placed (λ e. e.uid) (map (with_reached es) es) [])
    else None

-- just the store that is made of entities with their parents is computed
abbrev pub ComputedIsMade : Type 0
ComputedIsMade = (es : List StoredEntity) (w : Store) → made_of es ≡ Some w ↔ IsFromParents es w
