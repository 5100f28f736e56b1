-- The order of values: by kind, and inside a kind by content.
use Rattle.std.specs.Prelude.{◌≡◌, ℕ, List, [], ◌∷◌}
use Rattle.std.specs.declared.cmp.Ordering.{Ordering}
use Rattle.std.specs.declared.cmp.Ordering.TheVariants.{Less, Equal, Greater}
use Rattle.std.specs.Ordering.{nat_cmp, int_cmp, bool_cmp, ordering_then, match_ordering}
use Rattle.policy_values.specs.Uid.{text_cmp, uid_cmp}
use Rattle.policy_values.specs.RangeOrder.{range_cmp}
use Rattle.policy_values.specs.Value.{Val, truth, long, string, entity, set, rec, decimal, ip, datetime, duration, Vals, no_vals, val, Fields, no_fields, field}

-- the place of a kind: booleans, longs, strings, ids, sets, records, decimals, ranges of IP addresses,
-- datetimes, durations
abbrev pub rank : Val → ℕ
rank (truth b) = 0
rank (long n) = 1
rank (string t) = 2
rank (entity u) = 3
rank (set vs) = 4
rank (rec fs) = 5
rank (decimal n) = 6
rank (ip r) = 7
rank (datetime n) = 8
rank (duration n) = 9

-- values by kind; inside a kind by content, sets and records as lists in their order
abbrev mutual
  pub val_cmp : Val → Val → Ordering
  val_cmp (truth a) (truth b) = bool_cmp a b
  val_cmp (long a) (long b) = int_cmp a b
  val_cmp (string a) (string b) = text_cmp a b
  val_cmp (entity a) (entity b) = uid_cmp a b
  val_cmp (set a) (set b) = vals_cmp a b
  val_cmp (rec a) (rec b) = fields_cmp a b
  val_cmp (decimal a) (decimal b) = int_cmp a b
  val_cmp (ip a) (ip b) = range_cmp a b
  val_cmp (datetime a) (datetime b) = int_cmp a b
  val_cmp (duration a) (duration b) = int_cmp a b
  val_cmp a b = nat_cmp (rank a) (rank b)

  pub vals_cmp : Vals → Vals → Ordering
  vals_cmp no_vals no_vals = Equal
  vals_cmp no_vals (val y ys) = Less
  vals_cmp (val x xs) no_vals = Greater
  vals_cmp (val x xs) (val y ys) = ordering_then (val_cmp x y) (vals_cmp xs ys)

  pub fields_cmp : Fields → Fields → Ordering
  fields_cmp no_fields no_fields = Equal
  fields_cmp no_fields (field k y ys) = Less
  fields_cmp (field k x xs) no_fields = Greater
  fields_cmp (field k x xs) (field l y ys) =
      ordering_then (ordering_then (text_cmp k l) (val_cmp x y)) (fields_cmp xs ys)

-- a set in order with one more value, in its place unless it is there
abbrev pub insert_val : Val → Vals → Vals
insert_val v no_vals = val v no_vals
insert_val v (val w ws) = match_ordering (val_cmp v w) (val v (val w ws)) (val w ws) (val w (insert_val v ws))

-- a set in order with the elements of a list
abbrev pub insert_all : List Val → Vals → Vals
insert_all [] ws = ws
insert_all (v ∷ vs) ws = insert_val v (insert_all vs ws)

-- the set of the elements of a list: in order, without repeats
abbrev pub set_of : List Val → Vals
set_of vs = insert_all vs no_vals

-- the value comes before the first of the set
abbrev pub IsBelow : Val → Vals → Type 0
IsBelow v no_vals = Unit {0}
IsBelow v (val w ws) = val_cmp v w ≡ Less

-- each element comes before the next
abbrev pub Ascends : Vals → Type 0
Ascends no_vals = Unit {0}
Ascends (val v vs) = IsBelow v vs × Ascends vs

-- the key comes before the first of the fields
abbrev pub IsBelowField : List ℕ → Fields → Type 0
IsBelowField k no_fields = Unit {0}
IsBelowField k (field l v fs) = text_cmp k l ≡ Less

-- each key comes before the next
abbrev pub AscendsFields : Fields → Type 0
AscendsFields no_fields = Unit {0}
AscendsFields (field k v fs) = IsBelowField k fs × AscendsFields fs

-- the outermost set or record is in order
abbrev pub IsInOrder : Val → Type 0
IsInOrder (set vs) = Ascends vs
IsInOrder (rec fs) = AscendsFields fs
IsInOrder v = Unit {0}
