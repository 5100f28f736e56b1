-- An entity of the attributes and tags that rows have is what their choice leaves of the stored entity: its attributes
-- ascend and look-ups find the same in both, its tags are all or none.
use Rattle.std.proofs.Common.{◌≡◌, ℕ, true, false, List, [], ◌∷◌, Option, Some, None, is_some, refl, sym, ap, ◌∙◌}
use Rattle.std.specs.Prelude.{if◌then◌else◌, filter}
use Rattle.std.specs.Option.{option_and_then, option_map_or}
use Rattle.policy_values.specs.declared.entity_uid.EntityUID.{EntityUID}
use Rattle.policy_values.specs.Value.{no_fields, field_at}
use Rattle.access_tries.specs.Views.{ViewData}
use Rattle.entity_store.specs.Store.{StoredEntity, entity_at}
use Rattle.table_loader.specs.Order.{IsEntityOrdered}
use Rattle.table_loader.proofs.SameLookups.{their_lookups}
use Rattle.reads_spec.specs.Paths.{along, any_tag}
use Rattle.reads_spec.specs.Restrict.{cut_entity, cut_fields}
use Rattle.entity_loader.specs.Answers.{IsHonestEntity}
use Rattle.entity_loader.specs.Asked.{asks}
use Rattle.entity_loader.specs.declared.loader.EntityRequest.{EntityRequest}
use Rattle.table_loader.specs.TableLaws.{IsOrderedStore}
use Rattle.table_loader.specs.Tables.{Tables, store_of}
use Rattle.table_loader.specs.RowsState.{attribute_at, has_entity}
use Rattle.table_loader.proofs.Stores.{in_order, is_entity_of}
use Rattle.table_loader.proofs.Answers.{attributes_enough, tags_enough}
use Rattle.table_loader.proofs.Cuts.{IsOfWholeFields, field_at-whole, ascending-cut, cut-each}
use Rattle.table_loader.specs.Answers.{attributes_asked, tags_asked, by_rows}
use Rattle.table_loader.specs.FromRows.{IsFromRows, EntitiesFromRowsAreHonest}

filter-none : (ys : List EntityUID) → filter (λ y. false) ys ≡ []
filter-none [] = refl
filter-none (y ∷ ys) = filter-none ys

attributes_whole : (v : ViewData) → IsOfWholeFields (attributes_asked v)
attributes_whole v = record { below = λ n c. refl }

tags_whole : (v : ViewData) → IsOfWholeFields (tags_asked v)
tags_whole v = record { below = λ n c. refl }

module _ (t : Tables) (r : EntityRequest) (e stored : StoredEntity) (at : entity_at (store_of t) r.entity_id ≡ Some stored) (is : IsFromRows t r e) (order : IsEntityOrdered stored) where
  same_attributes : e.attrs ≡ cut_fields stored.attrs (attributes_asked r.access_trie)
  same_attributes =
      their_lookups e.attrs (cut_fields stored.attrs (attributes_asked r.access_trie)) is.ascending
      (ascending-cut stored.attrs (attributes_asked r.access_trie) order.attrs)
      (λ k. is.attrs k ∙ found k ∙ sym (field_at-whole (attributes_asked r.access_trie) (attributes_whole r.access_trie) stored.attrs k))
    where
      found : (k : List ℕ) →
          (if asks r.access_trie (along k ∷ []) then attribute_at t r.entity_id k else None) ≡
          (if asks r.access_trie (along k ∷ []) then field_at stored.attrs k else None)
      found k = ap (λ (o : Option StoredEntity). if asks r.access_trie (along k ∷ []) then option_and_then (λ (x : StoredEntity). field_at x.attrs k) o else None) at

  same_tags : e.tags ≡ cut_fields stored.tags (tags_asked r.access_trie)
  same_tags =
      is.tags ∙
      ap (λ (o : Option StoredEntity). if asks r.access_trie (any_tag ∷ []) then option_map_or (λ (x : StoredEntity). x.tags) o no_fields else no_fields) at ∙
      sym (cut-each (tags_asked r.access_trie) (asks r.access_trie (any_tag ∷ [])) (tags_whole r.access_trie) (λ n. refl) stored.tags)

  same_entity : r.entity_id ≡ stored.uid → e ≡ cut_entity (by_rows r.access_trie) stored
  same_entity uid = λ i. record {
    uid = (is.uid ∙ uid) i;
    attrs = same_attributes i;
    ancestors = (is.ancestors ∙ sym (filter-none stored.ancestors)) i;
    tags = same_tags i;
  }

pub given : (t : Tables) (r : EntityRequest) (e : StoredEntity) → IsOrderedStore (store_of t) →
    has_entity t r.entity_id ≡ true → IsFromRows t r e → IsHonestEntity false (store_of t) r e
given t r e order has is = by (entity_at (store_of t) r.entity_id) refl has
  where
    by : (o : Option StoredEntity) → entity_at (store_of t) r.entity_id ≡ o → is_some o ≡ true → IsHonestEntity false (store_of t) r e
    by None at k = absurd (cc)
    by (Some stored) at k = record {
      stored = stored;
      at = at;
      keep = by_rows r.access_trie;
      is = same_entity t r e stored at is (order r.entity_id stored at) (ap (λ (x : StoredEntity). x.uid) (is_entity_of t r.entity_id stored at));
      chains = attributes_enough r.access_trie stored.uid;
      tags = tags_enough r.access_trie stored.uid;
      exactly = λ no. absurd (cc);
    }

pub honest : EntitiesFromRowsAreHonest
honest t r e ordered has is = given t r e (in_order t ordered).order has is
