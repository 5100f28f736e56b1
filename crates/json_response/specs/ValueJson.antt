-- Values as JSON.
use Rattle.std.specs.Prelude.{ℕ, List, codes}
use Rattle.policy_values.specs.declared.entity_uid.EntityUID.{EntityUID}
use Rattle.policy_ext.specs.Decimal.{decimal_text}
use Rattle.policy_ext.specs.IpText.{range_text}
use Rattle.policy_values.specs.Value.{Val, truth, long, string, entity, set, rec, decimal, ip, datetime, duration, Vals, no_vals, val, Fields, no_fields, field}
use Rattle.serde_json.specs.Data as json
use Rattle.serde_json.specs.Data.{Data, boolean, number, array, object, Items, no_items, item, Members, no_members, member}
use Rattle.serde_json.specs.Find.{of_integer}

-- a list of two texts
abbrev pub pair_data : List ℕ → List ℕ → Data
pair_data a b = array (item (json.string a) (item (json.string b) no_items))

-- an id is the list of its type and its eid
abbrev pub uid_data : EntityUID → Data
uid_data u = pair_data u.entity_type u.eid

-- the object with this member alone
abbrev pub alone : List ℕ → Data → Data
alone name d = object (member name d no_members)

-- A boolean, a long and a text stand for themselves; a set is the array of its elements, in their order; all
-- else stands under a name of its kind: an id, a record, the texts of a decimal and of a range of IP
-- addresses, and the milliseconds of a datetime and of a duration.
abbrev mutual
  pub value_data : Val → Data
  value_data (truth b) = boolean b
  value_data (long n) = number (of_integer n)
  value_data (string t) = json.string t
  value_data (entity u) = alone (codes "id") (uid_data u)
  value_data (set vs) = array (items_data vs)
  value_data (rec fs) = alone (codes "record") (object (members_data fs))
  value_data (decimal n) = alone (codes "decimal") (json.string (decimal_text n))
  value_data (ip r) = alone (codes "ip") (json.string (range_text r))
  value_data (datetime n) = alone (codes "datetime") (number (of_integer n))
  value_data (duration n) = alone (codes "duration") (number (of_integer n))

  pub items_data : Vals → Items
  items_data no_vals = no_items
  items_data (val v vs) = item (value_data v) (items_data vs)

  -- the fields' values under their keys, in their order
  pub members_data : Fields → Members
  members_data no_fields = no_members
  members_data (field k v fs) = member k (value_data v) (members_data fs)

-- fields are the object of their values
abbrev pub fields_data : Fields → Data
fields_data fs = object (members_data fs)
