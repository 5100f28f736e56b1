-- Values in JSON.
use Rattle.std.specs.Prelude.{ℕ, ℤ, List, [], if◌then◌else◌, Option, Some, None, option_map, codes}
use Rattle.std.specs.Str.{bytes_eq}
use Rattle.policy_values.specs.Value.{Val, truth, long, string, entity, set, rec, decimal, ip, datetime, duration, fields_of}
use Rattle.policy_values.specs.ValueOrder.{set_of}
use Rattle.policy_values.specs.Readings.{decimal_in, range_in, datetime_in, duration_in}
use Rattle.serde_json.specs.Data as json
use Rattle.serde_json.specs.Data.{Data, null, boolean, number, array, object, Items, no_items, item, Members, no_members, member}
use Rattle.serde_json.specs.Find.{as_i64}
use Rattle.json_values.specs.Lists.{with_first, with_field}
use Rattle.json_values.specs.Names.{uid_of}

-- a text that stands for a value
abbrev pub text_form : {X : Type 0} → (X → Val) → (List ℕ → Option X) → Data → Option Val
text_form make read null = None
text_form make read (json.string t) = option_map make (read t)
text_form make read d = None

-- a text that stands for a number of milliseconds, or that number
abbrev pub time_form : (ℤ → Val) → (List ℕ → Option ℤ) → Data → Option Val
time_form make read null = None
time_form make read (number n) = option_map make (as_i64 n)
time_form make read (json.string t) = option_map make (read t)
time_form make read d = None

-- the object with this one member: a value of an extension
unfoldable pub extension_form : List ℕ → Data → Option Val
extension_form key d =
    if bytes_eq key (codes "decimal") then text_form decimal decimal_in d else
    (if bytes_eq key (codes "ip") then text_form ip range_in d else
    (if bytes_eq key (codes "datetime") then time_form datetime datetime_in d else
    (if bytes_eq key (codes "duration") then time_form duration duration_in d else None)))

-- the object with this one member: an id, a record of these fields, or a value of an extension
abbrev pub value_form : List ℕ → Data → Option (List (List ℕ × Val)) → Option Val
value_form key d fields =
    if bytes_eq key (codes "id") then option_map entity (uid_of d)
    else (if bytes_eq key (codes "record") then option_map (λ es. rec (fields_of es)) fields
    else extension_form key d)

-- The value that a JSON value says. Of a list the order does not count, nor how often an element
-- stands there.
abbrev mutual
  pub value_of : Data → Option Val
  value_of null = None
  value_of (boolean b) = Some (truth b)
  value_of (number n) = option_map long (as_i64 n)
  value_of (json.string t) = Some (string t)
  value_of (array ds) = option_map (λ vs. set (set_of vs)) (values_of ds)
  value_of (object ms) = value_of_members ms

  pub values_of : Items → Option (List Val)
  values_of no_items = Some []
  values_of (item d ds) = with_first (value_of d) (values_of ds)

  pub value_of_members : Members → Option Val
  value_of_members no_members = None
  value_of_members (member k d no_members) = value_form k d (value_fields_of d)
  value_of_members (member k d (member l e ms)) = None

  pub value_fields_of : Data → Option (List (List ℕ × Val))
  value_fields_of null = None
  value_fields_of (boolean b) = None
  value_fields_of (number n) = None
  value_fields_of (json.string t) = None
  value_fields_of (array ds) = None
  value_fields_of (object ms) = value_entries_of ms

  -- the values of the members, each under its name
  pub value_entries_of : Members → Option (List (List ℕ × Val))
  value_entries_of no_members = Some []
  value_entries_of (member k d ms) = with_field k (value_of d) (value_entries_of ms)

-- the values of an object, under their names; an absent one has none
abbrev pub given_fields_of : Option Data → Option (List (List ℕ × Val))
given_fields_of None = Some []
given_fields_of (Some d) = value_fields_of d
