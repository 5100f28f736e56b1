-- No answer is written with a float.
use Rattle.std.proofs.Common.{◌≡◌, ℕ, ℤ, pos, negsuc, List, [], ◌∷◌, map, false, refl}
use Rattle.entity_store.specs.Store.{StoredEntity}
use Rattle.policy_values.specs.Value.{Val, truth, long, string, entity, set, rec, decimal, ip, datetime, duration, Vals, no_vals, val, Fields, no_fields, field}
use Rattle.policy_set.specs.declared.response.PolicyFailure.{PolicyFailure}
use Rattle.serde_json.specs.Data as json
use Rattle.serde_json.specs.Data.{Data}
use Rattle.serde_json.specs.Find.{is_float, of_integer}
use Rattle.serde_json.specs.View.{items_of}
use Rattle.serde_json.specs.Written.{has_float, items_have_float, members_have_float}
use Rattle.json_response.specs.ValueJson.{uid_data, value_data, items_data, members_data}
use Rattle.json_response.specs.SliceJson.{entity_data, failure_data}

integer_has_none : (n : ℤ) → is_float (of_integer n) ≡ false
integer_has_none (pos n) = refl
integer_has_none (negsuc n) = refl

mutual
  value_has_none : (v : Val) → has_float (value_data v) ≡ false
  value_has_none (truth b) = refl
  value_has_none (long n) = integer_has_none n
  value_has_none (string t) = refl
  value_has_none (entity u) = refl
  value_has_none (set vs) = items_have_none vs
  value_has_none (rec fs) = rw (fields_have_none fs) refl
  value_has_none (decimal n) = refl
  value_has_none (ip r) = refl
  value_has_none (datetime n) = rw (integer_has_none n) refl
  value_has_none (duration n) = rw (integer_has_none n) refl

  items_have_none : (vs : Vals) → items_have_float (items_data vs) ≡ false
  items_have_none no_vals = refl
  items_have_none (val v vs) = rw (value_has_none v) (items_have_none vs)

  fields_have_none : (fs : Fields) → members_have_float (members_data fs) ≡ false
  fields_have_none no_fields = refl
  fields_have_none (field k v fs) = rw (value_has_none v) (fields_have_none fs)

list_has_none : {X : Type 0} (f : X → Data) → ((x : X) → has_float (f x) ≡ false) → (xs : List X) → items_have_float (items_of (map f xs)) ≡ false
list_has_none f none [] = refl
list_has_none f none (x ∷ xs) = rw (none x) (list_has_none f none xs)

pub failures_have_none : (fs : List PolicyFailure) → has_float (json.array (items_of (map failure_data fs))) ≡ false
failures_have_none = list_has_none failure_data (λ _. refl)

pub ids_have_none : (ids : List (List ℕ)) → has_float (json.array (items_of (map json.string ids))) ≡ false
ids_have_none = list_has_none json.string (λ _. refl)

pub entity_has_none : (e : StoredEntity) → has_float (entity_data e) ≡ false
entity_has_none e = rw (list_has_none uid_data (λ _. refl) e.ancestors, fields_have_none e.attrs, fields_have_none e.tags) refl
