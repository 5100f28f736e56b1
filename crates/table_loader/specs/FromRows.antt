-- Entities put together of what rows give.
use Rattle.std.specs.Prelude.{◌≡◌, ℕ, true, false, List, [], ◌∷◌, None, if◌then◌else◌}
use Rattle.policy_values.specs.declared.entity_uid.EntityUID.{EntityUID}
use Rattle.policy_values.specs.Value.{Fields, no_fields, field_at}
use Rattle.access_tries.specs.Views.{ViewData}
use Rattle.entity_store.specs.Store.{StoredEntity}
use Rattle.table_loader.specs.OrderLaws.{KeysAscend}
use Rattle.reads_spec.specs.Paths.{along, any_tag}
use Rattle.entity_loader.specs.Answers.{IsHonestEntity}
use Rattle.entity_loader.specs.Asked.{asks}
use Rattle.entity_loader.specs.declared.loader.EntityRequest.{EntityRequest}
use Rattle.table_loader.specs.Tables.{Tables, AreInOrder, store_of}
use Rattle.table_loader.specs.RowsState.{has_entity, attribute_at, tags_at}

-- all tags of the entity in the tables, where the trie goes on with any tag; else none
abbrev pub tags_from_rows : Tables → ViewData → EntityUID → Fields
tags_from_rows t v u = if asks v (any_tag ∷ []) then tags_at t u else no_fields

-- an entity with the attributes of the tables with which the trie goes on, and no others, with all tags where
-- it goes on with any tag, and without ancestors
pub record IsFromRows (t : Tables) (r : EntityRequest) (e : StoredEntity) : Type 0 where
  pub uid : e.uid ≡ r.entity_id
  pub ascending : KeysAscend e.attrs
  pub attrs : (k : List ℕ) →
      field_at e.attrs k ≡ (if asks r.access_trie (along k ∷ []) then attribute_at t r.entity_id k else None)
  pub tags : e.tags ≡ tags_from_rows t r.access_trie r.entity_id
  pub ancestors : e.ancestors ≡ []

-- where the tables are in order and have the entity, it is an honest answer of their store
abbrev pub EntitiesFromRowsAreHonest : Type 0
EntitiesFromRowsAreHonest =
    (t : Tables) (r : EntityRequest) (e : StoredEntity) → AreInOrder t →
    has_entity t r.entity_id ≡ true → IsFromRows t r e → IsHonestEntity false (store_of t) r e
