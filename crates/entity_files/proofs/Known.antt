-- The store that is known, and what was looked up of it.
use Rattle.std.proofs.Common.{◌≡◌, List, Option, Some, None}
use Rattle.std.specs.Prelude.{option_and_then}
use Rattle.std.specs.BTreeSet.{contains}
use Rattle.sqlite.specs.State.{State}
use Rattle.policy_values.specs.Uid.{uid_cmp}
use Rattle.entity_store.specs.FromParents.{IsFromParents}
use Rattle.entity_store.specs.Store.{StoredEntity, Store}
use Rattle.table_loader.specs.Parents.{AreLookedUp}
use Rattle.table_loader.proofs.PartialParents.{others_all}
use Rattle.table_loader.proofs.PartialStores.{whole_entities}
use Rattle.entity_files.specs.Fetched.{AreFetched, AreKnown}
use Rattle.entity_files.specs.Made.{made_of}
use Rattle.entity_files.specs.Rows.{known_entities, known_store}
use Rattle.entity_files.specs.Table.{Continues}
use Rattle.entity_files.specs.declared.fetched.Fetched.{Fetched}
use Rattle.entity_files.proofs.Made.{computed_is_made}

made_some : (o : Option (List StoredEntity)) (w : Store) → option_and_then made_of o ≡ Some w → (es : List StoredEntity) × (o ≡ Some es) × (made_of es ≡ Some w)
made_some None w h = absurd (cc)
made_some (Some es) w h = (es, cc, h)

-- where the entities are the same, so is their store
pub store_goes_on : (old new : State) → Continues (known_entities old) (known_entities new) → Continues (known_store old) (known_store new)
store_goes_on old new goes w h =
    let (es, is, made) = made_some (known_entities new) w h in
    rw (goes es is) made

-- what was found is known
pub all_known : (s : State) (f : Fetched) (found : Store) → AreFetched (known_entities s) f → IsFromParents f.found.items found → AreKnown (known_store s) f.seen found
all_known s f found fetched made w told u seen =
    let (es, is, whole) = made_some (known_entities s) w told in
    let of_all : IsFromParents es w = (computed_is_made es w).0 whole in
    let looked : AreLookedUp (contains uid_cmp f.seen) f.found.items es = λ v at. fetched.same es is v at in (
      others_all (contains uid_cmp f.seen) f.found.items es looked found w made of_all u seen,
      λ above. whole_entities (contains uid_cmp f.seen) f.found.items es looked found w made of_all u seen above,
    )
