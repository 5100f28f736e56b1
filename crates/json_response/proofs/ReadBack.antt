-- What is written of a value is read as that value.
use Rattle.std.proofs.Common.{◌≡◌, ℕ, ◌<◌, ◌^◌, List, [], ◌∷◌, Bool, true, false, Some, None, option_map, arith, refl, ap, ◌∙◌}
use Rattle.std.specs.List.{AllByRecursion}
use Rattle.std.specs.Prelude.{ℤ, pos, negsuc, nat_lt, if◌then◌else◌, FitsSigned}
use Rattle.std.specs.Int.{w64}
use Rattle.std.proofs.lemmas.Bool.Decides.{nat_tests}
use Rattle.policy_values.specs.declared.entity_uid.EntityUID.{EntityUID}
use Rattle.policy_values.specs.Name.{IsName}
use Rattle.policy_ext.specs.Decimal.{IsDecimal, decimal_text}
use Rattle.policy_ext.specs.IpAddr.{Range, IsRange}
use Rattle.policy_ext.specs.IpText.{range_text}
use Rattle.policy_values.specs.Value.{Val, truth, long, string, entity, set, rec, decimal, ip, datetime, duration, vals_of, fields_of}
use Rattle.policy_values.specs.ValueOrder.{Ascends, IsBelow, insert_val, set_of}
use Rattle.serde_json.specs.Find.{as_i64, of_integer}
use Rattle.policy_values.proofs.ReadSteps.{reads_grammars}
use Rattle.json_values.specs.Lists.{with_first, with_field}
use Rattle.json_values.specs.Names.{uid_of}
use Rattle.json_values.proofs.NameTest.{name_reported}
use Rattle.json_values.specs.Values.{extension_form, values_of, value_entries_of}
use Rattle.json_response.specs.ValueJson.{items_data, members_data, uid_data}
use Rattle.json_response.specs.ReadBack.{IsReadBack}

long_at : (n : ℕ) (b : Bool) → nat_lt n (2 ^ 63) ≡ b → n < 2 ^ 63 → (if b then Some (pos n) else None) ≡ Some (pos n)
long_at n true e h = refl
long_at n false e h = grind (arith, nat_tests)

number_back : (z : ℤ) → FitsSigned w64 z → as_i64 (of_integer z) ≡ Some z
number_back (pos n) h = long_at n (nat_lt n (2 ^ 63)) refl h.sfits
number_back (negsuc n) h = refl

pub long_back : (z : ℤ) → FitsSigned w64 z → IsReadBack (long z)
unfolding IsReadBack
long_back z h = ap (option_map long) (number_back z h)

pub truth_back : (b : Bool) → IsReadBack (truth b)
unfolding IsReadBack
truth_back b = refl

pub string_back : (t : List ℕ) → IsReadBack (string t)
unfolding IsReadBack
string_back t = refl

pub uid_back : (u : EntityUID) → IsName u.entity_type → uid_of (uid_data u) ≡ Some u
uid_back u h = rw ((name_reported u.entity_type).1 h) refl

pub id_back : (u : EntityUID) → uid_of (uid_data u) ≡ Some u → IsReadBack (entity u)
unfolding IsReadBack
id_back u h = ap (option_map entity) h

pub decimal_back : (n : ℤ) → IsDecimal (decimal_text n) n → IsReadBack (decimal n)
unfolding IsReadBack extension_form
decimal_back n h = ap (option_map decimal) ((reads_grammars.0 (decimal_text n) n).1 h)

pub range_back : (r : Range) → IsRange (range_text r) r → IsReadBack (ip r)
unfolding IsReadBack extension_form
range_back r h = ap (option_map ip) ((reads_grammars.1 (range_text r) r).1 h)

pub datetime_back : (z : ℤ) → FitsSigned w64 z → IsReadBack (datetime z)
unfolding IsReadBack extension_form
datetime_back z h = ap (option_map datetime) (number_back z h)

pub duration_back : (z : ℤ) → FitsSigned w64 z → IsReadBack (duration z)
unfolding IsReadBack extension_form
duration_back z h = ap (option_map duration) (number_back z h)

put_first : (v : Val) (vs : List Val) → IsBelow v (vals_of vs) → insert_val v (vals_of vs) ≡ vals_of (v ∷ vs)
put_first v [] h = refl
put_first v (w ∷ ws) h = rw h refl

-- the set of elements that ascend is made of them
set_of_ascending : (vs : List Val) → Ascends (vals_of vs) → set_of vs ≡ vals_of vs
set_of_ascending [] h = refl
set_of_ascending (v ∷ vs) h = ap (insert_val v) (set_of_ascending vs h.1) ∙ put_first v vs h.0

items_back : (vs : List Val) → AllByRecursion IsReadBack vs → values_of (items_data (vals_of vs)) ≡ Some vs
unfolding IsReadBack
items_back [] h = refl
items_back (v ∷ vs) h = λ i. with_first (h.0 i) (items_back vs h.1 i)

pub set_back : (vs : List Val) → Ascends (vals_of vs) → AllByRecursion IsReadBack vs → IsReadBack (set (vals_of vs))
unfolding IsReadBack
set_back vs up h = ap (option_map (λ xs. set (set_of xs))) (items_back vs h) ∙ ap (λ ws. Some (set ws)) (set_of_ascending vs up)

pub fields_back : (es : List (List ℕ × Val)) → AllByRecursion (λ e. IsReadBack e.1) es → value_entries_of (members_data (fields_of es)) ≡ Some es
unfolding IsReadBack
fields_back [] h = refl
fields_back (e ∷ es) h = λ i. with_field e.0 (h.0 i) (fields_back es h.1 i)

pub record_back : (es : List (List ℕ × Val)) → value_entries_of (members_data (fields_of es)) ≡ Some es → IsReadBack (rec (fields_of es))
unfolding IsReadBack
record_back es h = ap (option_map (λ fs. rec (fields_of fs))) h
