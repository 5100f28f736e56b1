-- What was looked up of the entities of rows.
use Rattle.std.specs.Prelude.{◌≡◌, Bool, ◌&&◌, true, false, List, Option, Some, None}
use Rattle.std.specs.BTreeSet.{BTreeSet, contains}
use Rattle.std.specs.Coded.{Coded-set, coded_option, Π_prop, →_prop, ×_prop}
use Rattle.std.specs.List.{list_all}
use Rattle.std.specs.Option.{option_map, option_map_or}
use Rattle.policy_values.specs.declared.entity_uid.EntityUID.{EntityUID}
use Rattle.policy_values.specs.Uid.{uid_cmp}
use Rattle.entity_store.specs.FromParents.{Lists, without_links}
use Rattle.entity_store.specs.Store.{StoredEntity, Store, entity_at, coded_entity}
use Rattle.entity_files.specs.declared.fetched.Fetched.{Fetched}

-- of the ids that were looked up, the entities that were found are those of the rows, where these are known;
-- and there is none of another id
pub record AreFetched (told : Option (List StoredEntity)) (f : Fetched) : Type 0 where
  pub same : (es : List StoredEntity) → told ≡ Some es → (u : EntityUID) →
      contains uid_cmp f.seen u ≡ true → entity_at f.found.items u ≡ entity_at es u
  pub others : (u : EntityUID) → contains uid_cmp f.seen u ≡ false → entity_at f.found.items u ≡ None

-- the store of what was found has the entity as the store of all rows has it, but for its ancestors; and with
-- its ancestors, where each of those that it has there was looked up
abbrev pub IsKnownAt : BTreeSet EntityUID → Store → Store → EntityUID → Type 0
IsKnownAt seen found w u =
    (option_map without_links (entity_at found u) ≡ option_map without_links (entity_at w u))
    × (((y : EntityUID) → Lists found u y → contains uid_cmp seen y ≡ true) → entity_at found u ≡ entity_at w u)

-- that is so of each id that was looked up, where the store of all rows is known
abbrev pub AreKnown : Option Store → BTreeSet EntityUID → Store → Type 0
AreKnown told seen found = (w : Store) → told ≡ Some w → (u : EntityUID) →
    contains uid_cmp seen u ≡ true → IsKnownAt seen found w u

pub AreKnown-prop : (told : Option Store) (seen : BTreeSet EntityUID) (found : Store) →
    IsProp (AreKnown told seen found)
AreKnown-prop told seen found = Π_prop (λ w. →_prop (Π_prop (λ u. →_prop (×_prop
    (Coded-set (coded_option coded_entity) (option_map without_links (entity_at found u))
    (option_map without_links (entity_at w u)))
    (→_prop (Coded-set (coded_option coded_entity) (entity_at found u) (entity_at w u)))))))

-- whether the id was looked up, and each ancestor that its entity has in the store of what was found
abbrev pub is_whole : BTreeSet EntityUID → Store → EntityUID → Bool
is_whole seen found u = contains uid_cmp seen u
    && option_map_or (λ e. list_all (contains uid_cmp seen) e.ancestors) (entity_at found u) true
