-- No row is written with a float.
use Rattle.std.proofs.Common.{◌≡◌, ℤ, pos, negsuc, List, [], ◌∷◌, map, false, Result, Ok, Err, IfOk, String, Global, refl, ap, ◌∙◌}
use Rattle.std.specs.Prelude.{string_bytes}
use Rattle.policy_values.specs.declared.entity_uid.EntityUID.{EntityUID}
use Rattle.policy_values.specs.Value.{Val, truth, long, string, entity, set, rec, decimal, ip, datetime, duration, Vals, no_vals, val, Fields, no_fields, field}
use Rattle.serde_json.specs.Data.{Data}
use Rattle.serde_json.specs.Find.{is_float, of_integer}
use Rattle.serde_json.specs.View.{items_of}
use Rattle.serde_json.specs.Written.{has_float, items_have_float, members_have_float, compact_text}
use Rattle.json_response.specs.ValueJson.{uid_data, value_data, items_data, members_data}
use Rattle.entity_store.specs.Store.{StoredEntity}
use Rattle.entity_files.specs.Written.{row_data, row_text}

integer_has_none : (n : ℤ) → is_float (of_integer n) ≡ false
integer_has_none (pos n) = refl
integer_has_none (negsuc n) = refl

mutual
  value_has_none : (v : Val) → has_float (value_data v) ≡ false
  value_has_none (truth b) = refl
  value_has_none (long n) = integer_has_none n
  value_has_none (string t) = refl
  value_has_none (entity u) = refl
  value_has_none (set vs) = items_have_none vs
  value_has_none (rec fs) = rw (fields_have_none fs) refl
  value_has_none (decimal n) = refl
  value_has_none (ip r) = refl
  value_has_none (datetime n) = rw (integer_has_none n) refl
  value_has_none (duration n) = rw (integer_has_none n) refl

  items_have_none : (vs : Vals) → items_have_float (items_data vs) ≡ false
  items_have_none no_vals = refl
  items_have_none (val v vs) = rw (value_has_none v) (items_have_none vs)

  fields_have_none : (fs : Fields) → members_have_float (members_data fs) ≡ false
  fields_have_none no_fields = refl
  fields_have_none (field k v fs) = rw (value_has_none v) (fields_have_none fs)

ids_have_none : (us : List EntityUID) → items_have_float (items_of (map uid_data us)) ≡ false
ids_have_none [] = refl
ids_have_none (u ∷ us) = ids_have_none us

pub row_has_none : (e : StoredEntity) → has_float (row_data e) ≡ false
row_has_none e = rw (fields_have_none e.attrs, ids_have_none e.ancestors, fields_have_none e.tags) refl

-- so the text of a row is what is written of it
pub row_written : {E : Type 0} (e : StoredEntity) (v : Data) (r : Result (String Global) E) → v ≡ row_data e → IfOk r (λ s. has_float v ≡ false → string_bytes s ≡ compact_text v)
    → IfOk r (λ s. string_bytes s ≡ row_text e)
unfolding row_text
row_written e v (Ok s) is h = h (ap has_float is ∙ row_has_none e) ∙ ap compact_text is
row_written e v (Err x) is h = tt
