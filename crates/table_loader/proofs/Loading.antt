-- What a loader over rows answers is honest, where the rows say a store in order.
use Rattle.std.proofs.Common.{◌≡◌, ℕ, true, false, List, [], ◌∷◌, ◌++◌, Option, Some, None, refl, sym, ap, ◌∙◌, subst, arith, Contains, inl, inr}
use Rattle.std.specs.Prelude.{if◌then◌else◌, IfOk, Result, Ok}
use Rattle.std.specs.BTreeMap.{is_at}
use Rattle.std.specs.List.Sorted.{IsStrictlySortedBy}
use Rattle.std.specs.Map.{keys_of, lookup}
use Rattle.std.specs.Option.{option_and_then, option_map_or}
use Rattle.std.specs.declared.vec.Vec.{Vec}
use Rattle.std.specs.declared.alloc.Global.{Global}
use Rattle.std.proofs.lemmas.List.Elements.{Contains-append_left, Contains-push, Contains-push_cases}
use Rattle.plain_lemmas.proofs.Options.{none_of_no_some}
use Rattle.policy_values.specs.declared.entity_uid.EntityUID.{EntityUID}
use Rattle.policy_values.specs.Uid.{text_cmp}
use Rattle.policy_values.specs.Value.{Val, no_fields, fields_of, field_at}
use Rattle.entity_store.proofs.FieldsFound.{field_found}
use Rattle.entity_store.specs.Store.{StoredEntity, Store, entity_at}
use Rattle.table_loader.specs.OrderLaws.{KeysAscend}
use Rattle.reads_spec.specs.Paths.{along, any_tag}
use Rattle.entity_loader.specs.Answers.{IsHonest, IsHonestList}
use Rattle.entity_loader.specs.Asked.{asks}
use Rattle.entity_loader.specs.State.{Continues}
use Rattle.entity_loader.specs.declared.loader.AncestorsRequest.{AncestorsRequest}
use Rattle.entity_loader.specs.declared.loader.EntityRequest.{EntityRequest}
use Rattle.table_loader.specs.TableLaws.{IsOrderedStore}
use Rattle.table_loader.specs.RowsState.{RowsState, RowsContinue, TablesHaveAncestor, has_entity, attribute_at, tags_at}
use Rattle.table_loader.specs.Tables.{Tables, store_of}
use Rattle.table_loader.proofs.Entries.{keys_ascend, ordered_keys}
use Rattle.table_loader.proofs.FromRows.{given}
use Rattle.table_loader.proofs.Ordered.{known}
use Rattle.table_loader.specs.Asking.{AreFound}
use Rattle.table_loader.specs.State.{store_in_order, store_known, loader_state}

-- a clause on what was read, at what it was
pub at_ok : {X E : Type 0} (P : X → Type 0) (read : Result X E) (x : X) → read ≡ Ok x → IfOk read P → P x
at_ok P read x is h = subst (λ r. IfOk r P) is h

-- ---- entities

pub tags_ascend : (t : Tables) (u : EntityUID) → IsOrderedStore (store_of t) → KeysAscend (tags_at t u)
tags_ascend t u order = by (entity_at (store_of t) u) refl
  where
    by : (o : Option StoredEntity) → entity_at (store_of t) u ≡ o → KeysAscend (option_map_or (λ (e : StoredEntity). e.tags) o no_fields)
    by None at = tt
    by (Some e) at = ordered_keys e.tags (order u e at).tags

pub absent : (t : Tables) (r : EntityRequest) → has_entity t r.entity_id ≡ false → IsHonest false (store_of t) r None
absent t r h = none_of_no_some (entity_at (store_of t) r.entity_id) h

-- an entity with what was found for it
pub present : (t : Tables) (r : EntityRequest) (attrs tags : List (List ℕ × Val)) (e : StoredEntity) → IsOrderedStore (store_of t) →
    has_entity t r.entity_id ≡ true → e ≡ record { uid = r.entity_id; attrs = fields_of attrs; ancestors = []; tags = fields_of tags } →
    IsStrictlySortedBy text_cmp (keys_of attrs) →
    ((k : List ℕ) → lookup (is_at (text_cmp k)) attrs ≡ (if asks r.access_trie (along k ∷ []) then attribute_at t r.entity_id k else None)) →
    (KeysAscend (tags_at t r.entity_id) → fields_of tags ≡ (if asks r.access_trie (any_tag ∷ []) then tags_at t r.entity_id else no_fields)) →
    IsHonest false (store_of t) r (Some e)
present t r attrs tags e order has is sorted found tagged = given t r e order has record {
  uid = ap (λ (x : StoredEntity). x.uid) is;
  ascending = subst KeysAscend (sym (ap (λ (x : StoredEntity). x.attrs) is)) (keys_ascend attrs sorted);
  attrs = λ k. ap (λ (x : StoredEntity). field_at x.attrs k) is ∙ sym (field_found k attrs) ∙ found k;
  tags = ap (λ (x : StoredEntity). x.tags) is ∙ tagged (tags_ascend t r.entity_id order);
  ancestors = ap (λ (x : StoredEntity). x.ancestors) is;
}

-- ---- ancestors

module _ (t : Tables) (u : EntityUID) where
  pub none_found : AreFound t u [] []
  none_found = record { enough = λ y c h. c; given = λ y c. absurd (omega (arith, c.1)) }

  module _ (done found : List EntityUID) (y : EntityUID) (f : AreFound t u done found) where
    pub found_more : TablesHaveAncestor t u y → AreFound t u (done ++ y ∷ []) (found ++ y ∷ [])
    found_more h = record {
      enough = λ z c k. elim (Contains-push_cases done y z c) [
        | inl before ↦ Contains-append_left found (y ∷ []) z (f.enough z before k)
        | inr same ↦ subst (λ w. Contains (found ++ y ∷ []) w) same (Contains-push found y)
      ];
      given = λ z c. elim (Contains-push_cases found y z c) [
        | inl before ↦ f.given z before
        | inr same ↦ subst (TablesHaveAncestor t u) same h
      ];
    }

    pub found_other : (TablesHaveAncestor t u y → ⊥) → AreFound t u (done ++ y ∷ []) found
    found_other h = record {
      enough = λ z c k. elim (Contains-push_cases done y z c) [
        | inl before ↦ f.enough z before k
        | inr same ↦ absurd (h (subst (TablesHaveAncestor t u) (sym same) k))
      ];
      given = f.given;
    }

pub honest_list : (t : Tables) (r : AncestorsRequest) (ys : Vec EntityUID Global) → AreFound t r.entity_id r.ancestors.items ys.items → IsHonestList false (store_of t) r ys
honest_list t r ys f = record { enough = f.enough; given = f.given; exactly = λ no. absurd (cc) }

-- ---- states

pub continues : (a b : RowsState) (m n k l : ℕ) → RowsContinue a b → Continues (loader_state a m k) (loader_state b n l)
continues a b m n k l on = record { known = stays; exact = refl; faults = on.faults; strays = omega arith; honest = λ s h. refl }
  where
    stays : (s : Store) → store_known a ≡ Some s → store_known b ≡ Some s
    stays s h =
        let steady = (known a s h).steady in
        let same : store_known b ≡ store_known a =
        λ i. if on.steady i then option_and_then store_in_order (on.stays steady i) else None in
        same ∙ h
