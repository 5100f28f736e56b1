-- How values are written: as in Cedar, but of each set and each record five parts alone, with two points
-- behind them where there are more.
use Rattle.std.specs.Prelude.{ℕ, ◌-◌, Bool, true, false, not, ◌&&◌, ◌||◌, ◌==◌, nat_le, nat_lt, List, [], ◌++◌, length, slice_index, codes, if◌then◌else◌}
use Rattle.std.specs.Fmt.{signed_decimal}
use Rattle.std.specs.List.{list_all}
use Rattle.std.specs.Str.{bytes_eq}
use Rattle.policy_values.specs.Show.{uid_text}
use Rattle.policy_ext.specs.Decimal.{decimal_text}
use Rattle.policy_ext.specs.IpText.{range_text}
use Rattle.policy_values.specs.Value.{Val, truth, long, string, entity, set, rec, decimal, ip, datetime, duration, Vals, no_vals, val, Fields, no_fields, field}
use Rattle.findings.specs.Texts.{string_text}

-- a letter or `_`
abbrev pub is_head : ℕ → Bool
is_head c = (nat_le 97 c && nat_le c 122) || ((nat_le 65 c && nat_le c 90) || (c == 95))

-- a letter, a digit or `_`
abbrev pub is_tail : ℕ → Bool
is_tail c = is_head c || (nat_le 48 c && nat_le c 57)

-- one component of a name
abbrev pub is_component : List ℕ → Bool
is_component cs = nat_lt 0 (length cs) && (is_head (slice_index cs 0) &&
    (list_all is_tail cs && not (bytes_eq cs (codes "__cedar"))))

-- a key stands alone where it is a component of a name, and else as a string literal
abbrev pub key_text : List ℕ → List ℕ
key_text k = if is_component k then k else string_text k

abbrev pub truth_text : Bool → List ℕ
truth_text true = codes "true"
truth_text false = codes "false"

-- a call of an extension function
abbrev pub call_text : List ℕ → List ℕ → List ℕ
call_text function argument = function ++ (codes "(" ++ (argument ++ codes ")"))

-- a field, given the text of its value
abbrev pub field_text : List ℕ → List ℕ → List ℕ
field_text k text = key_text k ++ (codes ": " ++ text)

abbrev mutual
  pub value_text : Val → List ℕ
  value_text (truth b) = truth_text b
  value_text (long n) = signed_decimal n
  value_text (string s) = string_text s
  value_text (entity u) = uid_text u.entity_type u.eid
  value_text (set vs) = codes "[" ++ (elements_text 4 vs ++ codes "]")
  value_text (rec fs) = codes "{" ++ (fields_text 4 fs ++ codes "}")
  value_text (decimal n) = codes "decimal(\"" ++ (decimal_text n ++ codes "\")")
  value_text (ip r) = codes "ip(\"" ++ (range_text r ++ codes "\")")
  value_text (datetime n) = call_text (codes "datetime") (signed_decimal n)
  value_text (duration n) = call_text (codes "duration") (signed_decimal n)

  -- the elements, of which so many are shown behind the first
  pub elements_text : ℕ → Vals → List ℕ
  elements_text n no_vals = []
  elements_text n (val v vs) = value_text v ++ further_elements n vs

  -- those behind the first, of which so many more are shown
  pub further_elements : ℕ → Vals → List ℕ
  further_elements n no_vals = []
  further_elements n (val v vs) =
      if n == 0 then codes ", .. " else codes ", " ++ (value_text v ++ further_elements (n - 1) vs)

  -- the fields, of which so many are shown behind the first
  pub fields_text : ℕ → Fields → List ℕ
  fields_text n no_fields = []
  fields_text n (field k v fs) = field_text k (value_text v) ++ further_fields n fs

  -- those behind the first, of which so many more are shown
  pub further_fields : ℕ → Fields → List ℕ
  further_fields n no_fields = []
  further_fields n (field k v fs) =
      if n == 0 then codes ", .. "
      else codes ", " ++ (field_text k (value_text v) ++ further_fields (n - 1) fs)

-- the elements that are left, where it is reported whether the first is among them
abbrev pub elements_left : Bool → ℕ → Vals → List ℕ
elements_left true n vs = elements_text n vs
elements_left false n vs = further_elements n vs

abbrev pub fields_left : Bool → ℕ → Fields → List ℕ
fields_left true n fs = fields_text n fs
fields_left false n fs = further_fields n fs
