-- Values as plain data.
use Rattle.std.specs.Prelude.{ℕ, ◌+◌, max, Bool, ℤ, List, [], ◌∷◌, Option, Some, None, if◌then◌else◌}
use Rattle.std.specs.Ordering.{is_eq}
use Rattle.policy_values.specs.declared.entity_uid.EntityUID.{EntityUID}
use Rattle.policy_values.specs.Uid.{text_cmp}
use Rattle.policy_ext.specs.IpAddr.{Range}

mutual
  -- a boolean, a long, a string, an entity's id, a set, a record or an extension value: a decimal by its
  -- ten-thousandths, a range of IP addresses, a datetime by its milliseconds from 1970 on, a duration by its
  -- milliseconds
  pub data Val : Type 0 where
    truth : Bool → Val
    long : ℤ → Val
    string : List ℕ → Val
    entity : EntityUID → Val
    set : Vals → Val
    rec : Fields → Val
    decimal : ℤ → Val
    ip : Range → Val
    datetime : ℤ → Val
    duration : ℤ → Val

  -- the elements of a set
  pub data Vals : Type 0 where
    no_vals : Vals
    val : Val → Vals → Vals

  -- the fields of a record, each with its key
  pub data Fields : Type 0 where
    no_fields : Fields
    field : List ℕ → Val → Fields → Fields

-- how deep sets and records stand in one another
abbrev mutual
  pub size_of : Val → ℕ
  size_of (truth b) = 1
  size_of (long n) = 1
  size_of (string t) = 1
  size_of (entity u) = 1
  size_of (set vs) = size_of_all vs + 1
  size_of (rec fs) = size_of_fields fs + 1
  size_of (decimal n) = 1
  size_of (ip r) = 1
  size_of (datetime n) = 1
  size_of (duration n) = 1

  pub size_of_all : Vals → ℕ
  size_of_all no_vals = 0
  size_of_all (val v vs) = max (size_of v) (size_of_all vs)

  pub size_of_fields : Fields → ℕ
  size_of_fields no_fields = 0
  size_of_fields (field k v fs) = max (size_of v) (size_of_fields fs)

-- the elements that a list holds, in its order
abbrev pub vals_of : List Val → Vals
vals_of [] = no_vals
vals_of (v ∷ vs) = val v (vals_of vs)

-- the fields that the entries of a map are
abbrev pub fields_of : List (List ℕ × Val) → Fields
fields_of [] = no_fields
fields_of (e ∷ es) = field e.0 e.1 (fields_of es)

-- the value under a key, where there is one
abbrev pub field_at : Fields → List ℕ → Option Val
field_at no_fields k = None
field_at (field l v fs) k = if is_eq (text_cmp k l) then Some v else field_at fs k
