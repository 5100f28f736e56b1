-- Entities that rows spell are in order.
use Rattle.std.proofs.Common.{◌≡◌, ℕ, List, [], ◌∷◌, Bool, true, false, Option, Some, None, refl, sym, ap, ◌∙◌, subst}
use Rattle.std.specs.Prelude.{IfSome, option_and_then, if◌then◌else◌, codes}
use Rattle.std.specs.List.{AllByRecursion}
use Rattle.std.specs.List.Sorted.{IsStrictlySortedBy}
use Rattle.std.specs.BTreeSet.{insert_key}
use Rattle.std.specs.declared.cmp.Ordering.{Ordering}
use Rattle.std.specs.declared.cmp.Ordering.TheVariants.{Less, Equal, Greater}
use Rattle.std.specs.Ordering.{match_ordering, ordering_reverse}
use Rattle.policy_values.specs.declared.entity_uid.EntityUID.{EntityUID}
use Rattle.policy_values.specs.Uid.{uid_cmp, uid_cmp_total}
use Rattle.policy_values.specs.Value.{Val, fields_of}
use Rattle.serde_json.specs.Data as json
use Rattle.serde_json.specs.Data.{Data, Items, Members}
use Rattle.serde_json.specs.Find.{get, get_member, as_object, as_array}
use Rattle.serde_json.specs.Read.{read}
use Rattle.json_values.specs.Json.{◌>>=◌, has_only, json_of}
use Rattle.json_values.specs.Names.{uid_of, uid_set_of, with_uids}
use Rattle.json_values.specs.Values.{given_fields_of}
use Rattle.entity_store.specs.Store.{StoredEntity}
use Rattle.reads_spec.specs.Merge.{AreOrdered, IsEntityOrdered}
use Rattle.entity_files.specs.Entities.{entity_names, links_in, given_entity_of, entity_of, entity_in}
use Rattle.entity_files.proofs.SortedJson as sorted
use Rattle.entity_files.proofs.SortedValues.{fields_ordered}

turned : (x y : EntityUID) → uid_cmp x y ≡ Greater → uid_cmp y x ≡ Less
turned x y h = uid_cmp_total.antisymm y x ∙ ap ordering_reverse h

-- ---- sets of ids

above : (x y : EntityUID) → uid_cmp x y ≡ Less → (us : List EntityUID) → AllByRecursion (λ u. uid_cmp y u ≡ Less) us → AllByRecursion (λ u. uid_cmp x u ≡ Less) us
above x y h [] a = tt
above x y h (u ∷ us) a = (uid_cmp_total.trans x y u h a.0, above x y h us a.1)

all_inserted : (x k : EntityUID) → uid_cmp x k ≡ Less → (us : List EntityUID) → AllByRecursion (λ u. uid_cmp x u ≡ Less) us → AllByRecursion (λ u. uid_cmp x u ≡ Less) (insert_key uid_cmp us k)
all_inserted x k h [] a = (h, tt)
all_inserted x k h (u ∷ us) a = by (all_inserted x k h us a.1) (uid_cmp k u)
  where
    by : AllByRecursion (λ v. uid_cmp x v ≡ Less) (insert_key uid_cmp us k) → (o : Ordering) → AllByRecursion (λ v. uid_cmp x v ≡ Less) (match_ordering o (k ∷ u ∷ us) (u ∷ us) (u ∷ insert_key uid_cmp us k))
    by rest Less = (h, a)
    by rest Equal = a
    by rest Greater = (a.0, rest)

inserted : (k : EntityUID) (us : List EntityUID) → IsStrictlySortedBy uid_cmp us → IsStrictlySortedBy uid_cmp (insert_key uid_cmp us k)
unfolding IsStrictlySortedBy
inserted k [] s = (tt, tt)
inserted k (u ∷ us) s = by (inserted k us s.1) (uid_cmp k u) refl
  where
    by : IsStrictlySortedBy uid_cmp (insert_key uid_cmp us k) → (o : Ordering) → uid_cmp k u ≡ o → IsStrictlySortedBy uid_cmp (match_ordering o (k ∷ u ∷ us) (u ∷ us) (u ∷ insert_key uid_cmp us k))
    by rest Less is = ((is, above k u is us s.0), s)
    by rest Equal is = s
    by rest Greater is = (all_inserted u k (turned k u is) us s.0, rest)

ids_sorted : (us : List EntityUID) → IsStrictlySortedBy uid_cmp us → (ds : Items) → IfSome (with_uids us ds) (IsStrictlySortedBy uid_cmp)
ids_sorted us s json.no_items = s
ids_sorted us s (json.item d ds) = by (λ u. ids_sorted (insert_key uid_cmp us u) (inserted u us s) ds) (uid_of d)
  where
    by : ((u : EntityUID) → IfSome (with_uids (insert_key uid_cmp us u) ds) (IsStrictlySortedBy uid_cmp)) → (o : Option EntityUID) → IfSome (option_and_then (λ u. with_uids (insert_key uid_cmp us u) ds) o) (IsStrictlySortedBy uid_cmp)
    by rest None = tt
    by rest (Some u) = rest u

none_sorted : IsStrictlySortedBy uid_cmp []
unfolding IsStrictlySortedBy
none_sorted = tt

set_sorted : (o : Option Data) → IfSome (uid_set_of o) (IsStrictlySortedBy uid_cmp)
set_sorted None = none_sorted
set_sorted (Some d) = by (as_array d)
  where
    by : (o : Option Items) → IfSome (option_and_then (with_uids []) o) (IsStrictlySortedBy uid_cmp)
    by None = tt
    by (Some ds) = ids_sorted [] none_sorted ds

-- ---- members

found_sorted : (k : List ℕ) (ms : Members) → sorted.HasSorted ms → IfSome (get_member k ms) sorted.IsSorted
found_sorted k json.no_members s = tt
found_sorted k (json.member l e ms) s = by (found_sorted k ms s.2) _
  where
    by : IfSome (get_member k ms) sorted.IsSorted → (o : Ordering) → IfSome (match_ordering o (get_member k ms) (Some e) (get_member k ms)) sorted.IsSorted
    by rest Less = rest
    by rest Equal = s.0
    by rest Greater = rest

got_sorted : (k : List ℕ) (d : Data) → sorted.IsSorted d → IfSome (get k d) sorted.IsSorted
got_sorted k json.null s = tt
got_sorted k (json.boolean b) s = tt
got_sorted k (json.number n) s = tt
got_sorted k (json.string t) s = tt
got_sorted k (json.array ds) s = tt
got_sorted k (json.object ms) s = found_sorted k ms s

given_ordered : (o : Option Data) → IfSome o sorted.IsSorted → IfSome (given_fields_of o) (λ es. AreOrdered (fields_of es))
given_ordered None s = tt
given_ordered (Some d) s = fields_ordered d s

-- ---- entities

made : (u : Option EntityUID) (a : Option (List EntityUID)) (f g : Option (List (List ℕ × Val)))
    → IfSome a (IsStrictlySortedBy uid_cmp) → IfSome f (λ es. AreOrdered (fields_of es)) → IfSome g (λ es. AreOrdered (fields_of es))
    → IfSome (u >>= (λ uid. a >>= (λ ancestors. f >>= (λ attrs. g >>= (λ tags. Some (record { uid = uid; attrs = fields_of attrs; ancestors = ancestors; tags = fields_of tags })))))) IsEntityOrdered
made None a f g p q r = tt
made (Some u) None f g p q r = tt
made (Some u) (Some a) None g p q r = tt
made (Some u) (Some a) (Some f) None p q r = tt
made (Some u) (Some a) (Some f) (Some g) p q r = record { attrs = q; tags = r; ancestors = p }

nothing : (u : Option EntityUID) (f : EntityUID → Option StoredEntity) → ((x : EntityUID) → f x ≡ None) → IfSome (u >>= f) IsEntityOrdered
nothing None f h = tt
nothing (Some u) f h = subst (λ o. IfSome o IsEntityOrdered) (sym (h u)) tt

given_entity_ordered : (d : Data) → sorted.IsSorted d → IfSome (given_entity_of d) IsEntityOrdered
unfolding given_entity_of
given_entity_ordered d s = by (links_in (get (codes "parents") d) (get (codes "ancestors") d))
  where
    by : (o : Option Data) → IfSome ((option_and_then uid_of (get (codes "id") d)) >>= (λ uid. o >>= (λ list.
        uid_set_of (Some list) >>= (λ parents. given_fields_of (get (codes "attrs") d) >>= (λ attrs.
        given_fields_of (get (codes "tags") d) >>= (λ tags.
        Some (record { uid = uid; attrs = fields_of attrs; ancestors = parents; tags = fields_of tags }))))))) IsEntityOrdered
    by None = nothing (option_and_then uid_of (get (codes "id") d)) _ (λ x. refl)
    by (Some list) = made (option_and_then uid_of (get (codes "id") d)) (uid_set_of (Some list))
        (given_fields_of (get (codes "attrs") d)) (given_fields_of (get (codes "tags") d))
        (set_sorted (Some list)) (given_ordered _ (got_sorted (codes "attrs") d s)) (given_ordered _ (got_sorted (codes "tags") d s))

entity_ordered : (d : Data) → sorted.IsSorted d → IfSome (entity_of d) IsEntityOrdered
entity_ordered d s = by (as_object d)
  where
    if_ordered : (b : Bool) → IfSome (if b then given_entity_of d else None) IsEntityOrdered
    if_ordered true = given_entity_ordered d s
    if_ordered false = tt

    by : (o : Option Members) → IfSome (o >>= (λ ms. if has_only entity_names ms then given_entity_of d else None)) IsEntityOrdered
    by None = tt
    by (Some ms) = if_ordered (has_only entity_names ms)

json_sorted : (text : List ℕ) → IfSome (json_of text) sorted.IsSorted
unfolding json_of
json_sorted text = by _
  where
    by : (b : Bool) → IfSome (if b then read text else None) sorted.IsSorted
    by true = sorted.sorted text
    by false = tt

pub spelled_ordered : (text : List ℕ) → IfSome (entity_in text) IsEntityOrdered
spelled_ordered text = by (json_of text) (json_sorted text)
  where
    by : (o : Option Data) → IfSome o sorted.IsSorted → IfSome (option_and_then entity_of o) IsEntityOrdered
    by None s = tt
    by (Some d) s = entity_ordered d s
