-- The store of rows is in order.
use Rattle.std.proofs.Common.{◌≡◌, Bool, true, false, List, [], ◌∷◌, Option, Some, None, cond, if◌then◌else◌, refl, sym, ap, ◌∙◌, subst}
use Rattle.std.specs.Prelude.{IfSome, option_map, option_and_then}
use Rattle.std.specs.List.{AllByRecursion}
use Rattle.std.specs.List.Sorted.{IsStrictlySortedBy}
use Rattle.std.proofs.lemmas.List.Elements.{recursion_from_All}
use Rattle.sqlite.specs.declared.types.Value.{Value}
use Rattle.sqlite.specs.declared.types.Value.TheVariants.{Null, Int, Real, Text, Blob}
use Rattle.sqlite.specs.Order.{Row, column}
use Rattle.sqlite.specs.State.{State}
use Rattle.policy_values.specs.declared.entity_uid.EntityUID.{EntityUID}
use Rattle.policy_values.specs.Uid.{uid_cmp}
use Rattle.entity_store.specs.Store.{StoredEntity, Store, is_named, entity_at}
use Rattle.entity_store.specs.FromParents.{IsFromParents, without_links}
use Rattle.reads_spec.specs.Merge.{AreOrdered, IsEntityOrdered}
use Rattle.table_loader.specs.Laws.{IsStoreOrdered}
use Rattle.entity_files.specs.Made.{made_of}
use Rattle.entity_files.specs.Order.{StoresOfRowsAreInOrder}
use Rattle.entity_files.specs.Rows.{cell_entity, row_entity, with_row, row_entities, known_store}
use Rattle.entity_files.specs.Table.{is_of, known_rows}
use Rattle.entity_files.proofs.Made.{computed_is_made}
use Rattle.entity_files.proofs.SortedEntities.{spelled_ordered}

cell_ordered : (v : Value) → IfSome (cell_entity v) IsEntityOrdered
cell_ordered (Text t) = spelled_ordered t
cell_ordered Null = tt
cell_ordered (Int n) = tt
cell_ordered (Real x) = tt
cell_ordered (Blob b) = tt

row_ordered : (r : Row) → IfSome (row_entity r) IsEntityOrdered
row_ordered r = by (cell_entity (column r 4)) (cell_ordered (column r 4))
  where
    kept : (e : StoredEntity) (b : Bool) → IsEntityOrdered e → IfSome (if b then Some e else None) IsEntityOrdered
    kept e true h = h
    kept e false h = tt

    by : (o : Option StoredEntity) → IfSome o IsEntityOrdered → IfSome (option_and_then (λ e. if is_of e.uid.entity_type e.uid.eid r then Some e else None) o) IsEntityOrdered
    by None h = tt
    by (Some e) h = kept e (is_of e.uid.entity_type e.uid.eid r) h

rows_ordered : (rs : List Row) → AllByRecursion IsEntityOrdered (row_entities rs)
rows_ordered [] = tt
rows_ordered (r ∷ rs) = by (row_entity r) (row_ordered r) (rows_ordered rs)
  where
    by : (o : Option StoredEntity) → IfSome o IsEntityOrdered → AllByRecursion IsEntityOrdered (row_entities rs) → AllByRecursion IsEntityOrdered (with_row o (row_entities rs))
    by None h later = later
    by (Some e) h later = (h, later)

found_all : (P : StoredEntity → Type 0) (es : List StoredEntity) → AllByRecursion P es → (u : EntityUID) (f : StoredEntity) → entity_at es u ≡ Some f → P f
found_all P [] all u f at = absurd (cc)
found_all P (e ∷ es) all u f at = by (is_named u e) at (found_all P es all.1 u f)
  where
    by : (b : Bool) → cond b (Some e) (entity_at es u) ≡ Some f → (entity_at es u ≡ Some f → P f) → P f
    by true h later = let same : e ≡ f = cc in subst P same all.0
    by false h later = later h

module _ (es w : List StoredEntity) (made : IsFromParents es w) (all : AllByRecursion IsEntityOrdered es) where
  at_ordered : (u : EntityUID) (e : StoredEntity) → entity_at w u ≡ Some e → (o : Option StoredEntity) → entity_at es u ≡ o → option_map without_links (Some e) ≡ option_map without_links o → IsEntityOrdered e
  at_ordered u e at None is same = absurd (cc)
  at_ordered u e at (Some f) is same =
      let rest : without_links e ≡ without_links f = cc in
      let order : IsEntityOrdered f = found_all IsEntityOrdered es all u f is in record {
        attrs = subst AreOrdered (sym (ap (λ (g : StoredEntity). g.attrs) rest)) order.attrs;
        tags = subst AreOrdered (sym (ap (λ (g : StoredEntity). g.tags) rest)) order.tags;
        ancestors = found_all (λ g. IsStrictlySortedBy uid_cmp g.ancestors) w (recursion_from_All (λ g. IsStrictlySortedBy uid_cmp g.ancestors) w made.ascending) u e at;
      }

  whole_ordered : IsStoreOrdered w
  whole_ordered = record {
    ids = made.ordered;
    order = λ u e at. at_ordered u e at (entity_at es u) refl (sym (ap (option_map without_links) at) ∙ made.kept u);
  }

pub rows_in_order : StoresOfRowsAreInOrder
rows_in_order rs w h = whole_ordered (row_entities rs) w ((computed_is_made (row_entities rs) w).0 h) (rows_ordered rs)

-- so is the store that is known
pub known_in_order : (s : State) (w : Store) → known_store s ≡ Some w → IsStoreOrdered w
known_in_order s w h = by (known_rows s) h
  where
    by : (o : Option (List Row)) → option_and_then made_of (option_map row_entities o) ≡ Some w → IsStoreOrdered w
    by None h = absurd (cc)
    by (Some rs) h = rows_in_order rs w h
