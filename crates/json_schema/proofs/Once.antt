-- The types of a schema in JSON have the names of its members, so no name stands twice.
use Rattle.std.proofs.Common.{◌≡◌, ℕ, zero, suc, List, [], ◌∷◌, map, Option, Some, None, Global, ap, sym, subst, ◌∙◌, refl, arith, string_bytes}
use Rattle.std.specs.Prelude.{slice_get, option_map, option_and_then, String, Bool, true, false, if◌then◌else◌, codes}
use Rattle.std.specs.List.{AllByRecursion}
use Rattle.std.specs.List.Sorted.{IsStrictlySortedBy}
use Rattle.std.specs.Cmp.{tied_itself}
use Rattle.std.specs.String.{string_cmp}
use Rattle.std.specs.Cmp.Lexicographic.{nat_list_cmp_total}
use Rattle.std.specs.declared.cmp.Ordering.TheVariants.{Less}
use Rattle.std.proofs.lemmas.Map.Keys.{sorted_head, sorted_tail}
use Rattle.std.proofs.lemmas.Option.{cond_some}
use Rattle.policy_values.specs.Uid.{text_cmp}
use Rattle.serde_json.specs.Data.{Data, Members}
use Rattle.serde_json.specs.View.{view, members_view}
use Rattle.serde_json.specs.declared.value.Value.{Value}
use Rattle.serde_json.specs.Find.{get, as_array, as_object}
use Rattle.schema_core.specs.Entries.{TypeEntry}
use Rattle.schema_core.specs.Faults.{IsOnce}
use Rattle.json_values.specs.Json.{◌>>=◌, has_only}
use Rattle.json_values.specs.Names.{is_name, name_of_text, names_of}
use Rattle.json_schema.specs.Schema.{texts_of_items, attributes_at, tags_at, enumerated_of, standard_of, standard_names, declared_as, entity_type_of, entity_types_of_members}

below : (x k : List ℕ) (xs : List (List ℕ)) (i : ℕ) → AllByRecursion (λ y. text_cmp x y ≡ Less) xs → slice_get xs i ≡ Some k → text_cmp x k ≡ Less
below x k [] i all at = cc
below x k (y ∷ xs) zero all at = let e : y ≡ k = cc in subst (λ (z : List ℕ). text_cmp x z ≡ Less) e all.0
below x k (y ∷ xs) (suc i) all at = below x k xs i all.1 at

once_from_sorted : (ks : List (List ℕ)) → IsStrictlySortedBy text_cmp ks → IsOnce ks
once_from_sorted [] sorted k (i, at, earlier) = cc
once_from_sorted (x ∷ xs) sorted k (zero, at, (j, lt, is)) = absurd (omega arith)
once_from_sorted (x ∷ xs) sorted k (suc i, at, (zero, lt, is)) =
    let less : text_cmp x k ≡ Less = below x k xs i (sorted_head text_cmp x xs sorted) at in
    let tied = tied_itself nat_list_cmp_total k in
    cc (subst (λ (z : List ℕ). text_cmp z k ≡ Less) is less, tied)
once_from_sorted (x ∷ xs) sorted k (suc i, at, (suc j, lt, is)) = once_from_sorted xs (sorted_tail text_cmp x xs sorted) k (i, at, (j, (omega arith), is))

-- an optional value that f gives behind another comes of that other
bound : {A B : Type 0} (o : Option A) (f : A → Option B) (y : B) → (o >>= f) ≡ Some y → (x : A) × (o ≡ Some x) × (f x ≡ Some y)
bound None f y e = cc
bound (Some x) f y e = (x, refl, e)

guarded : {A : Type 0} (b : Bool) (o : Option A) (y : A) → (if b then o else None) ≡ Some y → o ≡ Some y
guarded true o y e = e
guarded false o y e = cc

name_in : (s t : TypeEntry) → Some s ≡ Some t → t.name ≡ s.name
name_in s t e = let is : s ≡ t = cc in sym (ap (λ (t : TypeEntry). t.name) is)

listed_named : (name : List ℕ) (listed : Data) (t : TypeEntry) → enumerated_of name listed ≡ Some t → t.name ≡ name
listed_named name listed t e =
    let (items, a, f) = bound (as_array listed) _ t e in
    let (choices, b, g) = bound (texts_of_items items) _ t f in
    name_in _ t g

standard_named : (name : List ℕ) (d : Data) (t : TypeEntry) → standard_of name d ≡ Some t → t.name ≡ name
standard_named name d t e =
    let (member_of, a, f) = bound (names_of (get (codes "memberOf") d)) _ t e in
    let (attributes, b, g) = bound (attributes_at (get (codes "attributes") d)) _ t f in
    let (tags, c, h) = bound (tags_at (get (codes "tags") d)) _ t g in
    name_in _ t h

declared_named : (name : List ℕ) (ms : Members) (d : Data) (o : Option Data) (t : TypeEntry) → declared_as name ms d o ≡ Some t → t.name ≡ name
declared_named name ms d None t e = standard_named name d t (guarded (has_only standard_names ms) (standard_of name d) t e)
declared_named name ms d (Some listed) t e = listed_named name listed t (guarded (has_only (codes "enum" ∷ []) ms) (enumerated_of name listed) t e)

-- a type has the name of its member
type_named : (key : List ℕ) (d : Data) (t : TypeEntry) → entity_type_of key d ≡ Some t → t.name ≡ key
unfolding entity_type_of
type_named key d t e =
    let (name, a, f) = bound (name_of_text key) _ t e in
    let (ms, b, g) = bound (as_object d) _ t f in
    declared_named name ms d (get (codes "enum") d) t g ∙ sym (cond_some (is_name key) key name a).1

and_names : (key : List ℕ) (o : Option TypeEntry) (os : Option (List TypeEntry)) (ts : List TypeEntry) (keys : List (List ℕ))
    → ((t : TypeEntry) → o ≡ Some t → t.name ≡ key) → ((us : List TypeEntry) → os ≡ Some us → map (λ t. t.name) us ≡ keys)
    → option_and_then (λ t. option_map (λ us. t ∷ us) os) o ≡ Some ts → map (λ t. t.name) ts ≡ key ∷ keys
and_names key None os ts keys one more e = cc
and_names key (Some t) None ts keys one more e = cc
and_names key (Some t) (Some us) ts keys one more e =
    let is : t ∷ us ≡ ts = cc in
    ap (map (λ (t : TypeEntry). t.name)) (sym is) ∙ (λ i. one t refl i ∷ more us refl i)

-- the types have the names of the members
names_of_types : (es : List (String Global × Value)) (ts : List TypeEntry) → entity_types_of_members (members_view es) ≡ Some ts → map (λ t. t.name) ts ≡ map (λ e. string_bytes e.0) es
names_of_types [] ts e = let is : [] ≡ ts = cc in ap (map (λ (t : TypeEntry). t.name)) (sym is)
names_of_types (m ∷ es) ts e = and_names (string_bytes m.0) (entity_type_of (string_bytes m.0) (view m.1)) (entity_types_of_members (members_view es)) ts _ (type_named (string_bytes m.0) (view m.1)) (names_of_types es) e

texts_below : (k : String Global) (ks : List (String Global)) → AllByRecursion (λ l. string_cmp k l ≡ Less) ks → AllByRecursion (λ l. text_cmp (string_bytes k) l ≡ Less) (map string_bytes ks)
texts_below k [] all = tt
texts_below k (l ∷ ks) all = (all.0, texts_below k ks all.1)

-- the texts of strings that ascend do
texts_sorted : (ks : List (String Global)) → IsStrictlySortedBy string_cmp ks → IsStrictlySortedBy text_cmp (map string_bytes ks)
unfolding IsStrictlySortedBy
texts_sorted [] s = tt
texts_sorted (k ∷ ks) s = (texts_below k ks s.0, texts_sorted ks s.1)

-- the types of members that ascend have each name once
pub names_once : (es : List (String Global × Value)) (ts : List TypeEntry) → entity_types_of_members (members_view es) ≡ Some ts → IsStrictlySortedBy string_cmp (map (λ e. e.0) es) → IsOnce (map (λ t. t.name) ts)
names_once es ts e s = subst IsOnce (sym (names_of_types es ts e ∙ by_keys es)) (once_from_sorted (map string_bytes (map (λ e. e.0) es)) (texts_sorted (map (λ e. e.0) es) s))
  where
    by_keys : (es : List (String Global × Value)) → map (λ e. string_bytes e.0) es ≡ map string_bytes (map (λ e. e.0) es)
    by_keys [] = refl
    by_keys (e ∷ es) = ap (λ r. string_bytes e.0 ∷ r) (by_keys es)
