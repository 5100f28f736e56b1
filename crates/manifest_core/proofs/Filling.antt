-- Tries put under their request types, one by one.
use Rattle.std.proofs.Common.{◌≡◌, Bool, true, false, ◌&&◌, cond, List, [], ◌∷◌, ◌++◌, Some, None, refl, sym, subst, ap, ◌∙◌, append_assoc}
use Rattle.std.specs.Ordering.{is_eq}
use Rattle.std.specs.Cmp.{IsTotalOrder, on_total, then_total}
use Rattle.std.specs.Cmp.Lexicographic.{nat_list_cmp_total}
use Rattle.std.proofs.lemmas.Cmp.{eq_by_cmp_equiv}
use Rattle.std.proofs.lemmas.Map.Views.{tells_apart}
use Rattle.policy_values.specs.Reaches.{at}
use Rattle.entity_store.specs.declared.request.RequestType.{RequestType}
use Rattle.entity_store.specs.Request.{request_type_cmp, exact_request_type}
use Rattle.schema_types.specs.Ty.{never}
use Rattle.schema_core.specs.Schema.{SchemaData}
use Rattle.access_tries.specs.Table.{Table}
use Rattle.json_tries.specs.Places.{Place, IsOfPlaces}
use Rattle.manifest_core.specs.Manifest.{Manifest}
use Rattle.manifest_core.specs.Mismatches.{KeepsDeclared, is_declared_address}
use Rattle.manifest_core.specs.Reading.{Entry}
use Rattle.manifest_core.specs.Said.{IsTypedOf, IsTypedAt, AreTypedOf, IsEntryPut}

request_types_total : IsTotalOrder request_type_cmp
request_types_total =
    then_total (on_total (λ t. t.action) (then_total (on_total (λ u. u.entity_type) nat_list_cmp_total) (on_total (λ u. u.eid) nat_list_cmp_total)))
    (then_total (on_total (λ t. t.principal) nat_list_cmp_total) (on_total (λ t. t.resource) nat_list_cmp_total))

-- what is declared of the trie of places
pub typed_of : (s : SchemaData) (t : RequestType) (ps : List Place) (a b : Table) → IsOfPlaces ps a → KeepsDeclared s t a b → IsTypedOf s t ps b
typed_of s t ps a b is typed = record {
  paths = λ es. typed.paths es ∙ ap (λ p. p && is_declared_address s t never es) (is.paths es);
  marks = λ es. typed.marks es ∙ ap (λ p. p && is_declared_address s t never es) (is.marks es);
}

-- the entries at the end are done: their tries are those of the manifest
pub record IsFilled (s : SchemaData) (es left : List Entry) (m : Manifest) : Type 0 where
  pub ends : List Entry
  pub split : es ≡ left ++ ends
  pub typed : AreTypedOf s ends m

pub nothing_done : (s : SchemaData) (es : List Entry) (m : Manifest) → m ≡ [] → es ≡ es ++ [] → IsFilled s es es m
nothing_done s es m none same = record { ends = []; split = same; typed = λ t. subst (λ n. IsTypedAt s t None (at request_type_cmp n t)) (sym none) tt }

put_one : (s : SchemaData) (e : Entry) (ends : List Entry) (m n : Manifest) → AreTypedOf s ends m → IsEntryPut s e m n → AreTypedOf s (e ∷ ends) n
put_one s e ends m n typed (a, is, puts) t =
    subst (λ o. IsTypedAt s t (at request_type_cmp (e ∷ ends) t) o) (sym (puts t)) (by (is_eq (request_type_cmp e.0 t)) refl)
  where
    turned : is_eq (request_type_cmp t e.0) ≡ is_eq (request_type_cmp e.0 t)
    turned = (eq_by_cmp_equiv request_types_total).symm t e.0

    by : (b : Bool) → is_eq (request_type_cmp e.0 t) ≡ b → IsTypedAt s t (cond (is_eq (request_type_cmp t e.0)) (Some e.1) (at request_type_cmp ends t)) (cond b (Some a) (at request_type_cmp m t))
    by true same = rw (turned, same) (subst (λ u. IsTypedOf s u e.1 a) (tells_apart exact_request_type e.0 t same) is)
    by false other = rw (turned, other) (typed t)

pub one_more : (s : SchemaData) (es left rest : List Entry) (e : Entry) (m n : Manifest) → left ≡ rest ++ e ∷ [] → IsEntryPut s e m n → IsFilled s es left m → IsFilled s es rest n
one_more s es left rest e m n is puts filled = record {
  ends = e ∷ filled.ends;
  split = filled.split ∙ ap (λ xs. xs ++ filled.ends) is ∙ append_assoc rest (e ∷ []) filled.ends;
  typed = put_one s e filled.ends m n filled.typed puts;
}

pub all_done : (s : SchemaData) (es left : List Entry) (m : Manifest) → left ≡ [] → IsFilled s es left m → AreTypedOf s es m
all_done s es left m none filled = subst (λ xs. AreTypedOf s xs m) (sym (filled.split ∙ ap (λ xs. xs ++ filled.ends) none)) filled.typed
