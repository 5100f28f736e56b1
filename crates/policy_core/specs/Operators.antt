-- What each operator makes of the values of its operands.
use Rattle.std.specs.Prelude.{ℕ, Bool, false, not, ◌||◌, ℤ, ◌+ℤ◌, ◌-ℤ◌, ◌*ℤ◌, neg_ℤ, List, Option, Some, None, is_some, pos, negsuc, nat_lt, ◌^◌, if◌then◌else◌, int_lt, int_le}
use Rattle.std.specs.List.{list_any}
use Rattle.std.specs.Ordering.{is_eq}
use Rattle.std.specs.Str.{chars}
use Rattle.policy_values.specs.declared.entity_uid.EntityUID.{EntityUID}
use Rattle.policy_values.specs.Uid.{text_cmp, uid_eq}
use Rattle.policy_values.specs.Value.{Val, truth, long, string, entity, set, rec, datetime, duration, Vals, no_vals, val, field_at}
use Rattle.policy_values.specs.ValueOrder.{val_cmp}
use Rattle.policy_values.specs.Sets.{is_empty, is_element, has_all, has_some}
use Rattle.entity_store.specs.Store.{StoredEntity, Store, entity_at}
use Rattle.policy_expressions.specs.declared.kinds.PatternElem.{PatternElem}
use Rattle.policy_core.specs.Like.{matches}
use Rattle.policy_expressions.specs.declared.kinds.UnaryOp.{UnaryOp}
use Rattle.policy_expressions.specs.declared.kinds.UnaryOp.TheVariants.{Not, Neg, IsEmpty}
use Rattle.policy_expressions.specs.declared.kinds.BinaryOp.{BinaryOp}
use Rattle.policy_expressions.specs.declared.kinds.BinaryOp.TheVariants.{Eq, Less, LessEq, Add, Sub, Mul, In, Contains, ContainsAll, ContainsAny, GetTag, HasTag}
use Rattle.policy_core.specs.declared.outcome.EvalError.{EvalError}
use Rattle.policy_core.specs.declared.outcome.EvalError.TheVariants.{MissingEntity, MissingAttribute, MissingTag, TypeFault, IntegerOverflow}
use Rattle.policy_core.specs.declared.outcome.Outcome.{Outcome}
use Rattle.policy_core.specs.declared.outcome.Outcome.TheVariants.{Value, Error}

-- whether the number is a long, of 64 bits
abbrev pub fits_long : ℤ → Bool
fits_long (pos n) = nat_lt n (2 ^ 63)
fits_long (negsuc n) = nat_lt n (2 ^ 63)

-- the number, where it is a long
abbrev pub fit : ℤ → Option ℤ
fit n = if fits_long n then Some n else None

-- what arithmetic gives: a long, or an overflow
abbrev pub long_of : Option ℤ → Outcome
long_of (Some n) = Value (long n)
long_of None = Error IntegerOverflow

-- `!` asks for a boolean, `-` for a long, `isEmpty` for a set
abbrev pub unary_value : UnaryOp → Val → Outcome
unary_value Not (truth b) = Value (truth (not b))
unary_value Not v = Error TypeFault
unary_value Neg (long n) = long_of (fit (neg_ℤ n))
unary_value Neg v = Error TypeFault
unary_value IsEmpty (set vs) = Value (truth (is_empty vs))
unary_value IsEmpty v = Error TypeFault

-- the id is an ancestor of the entity; an absent entity has none
abbrev pub above : Option StoredEntity → EntityUID → Bool
above None y = false
above (Some e) y = list_any (uid_eq y) e.ancestors

-- `x in y` of two ids: they are one, or y is an ancestor of x in the store
abbrev pub within : EntityUID → EntityUID → Store → Bool
within x y s = uid_eq x y || above (entity_at s x) y

-- one more answer before those of the other elements
abbrev pub or_within : Bool → Outcome → Outcome
or_within b (Value (truth c)) = Value (truth (b || c))
or_within b o = o

-- `in` with a set on the right: each element must be an id, and one that x is in suffices
abbrev pub within_any : EntityUID → Vals → Store → Outcome
within_any x no_vals s = Value (truth false)
within_any x (val (entity y) ys) s = or_within (within x y s) (within_any x ys s)
within_any x (val v ys) s = Error TypeFault

-- `x in y`: x must be an id, and y an id or a set of ids
abbrev pub in_value : Val → Val → Store → Outcome
in_value (entity x) (entity y) s = Value (truth (within x y s))
in_value (entity x) (set ys) s = within_any x ys s
in_value x y s = Error TypeFault

-- a comparison asks for two longs, two datetimes or two durations
abbrev pub compared : (ℤ → ℤ → Bool) → Val → Val → Outcome
compared test (long m) (long n) = Value (truth (test m n))
compared test (datetime m) (datetime n) = Value (truth (test m n))
compared test (duration m) (duration n) = Value (truth (test m n))
compared test x y = Error TypeFault

-- arithmetic asks for two longs; what 64 bits do not hold is an overflow
abbrev pub calculated : (ℤ → ℤ → ℤ) → Val → Val → Outcome
calculated f (long m) (long n) = long_of (fit (f m n))
calculated f x y = Error TypeFault

-- `contains` asks for a set on the left and takes any value on the right
abbrev pub contains_value : Val → Val → Outcome
contains_value (set vs) v = Value (truth (is_element v vs))
contains_value x y = Error TypeFault

-- `containsAll` and `containsAny` ask for two sets: whether the first has all, or some, of the second
abbrev pub contains_all_value : Val → Val → Outcome
contains_all_value (set vs) (set ws) = Value (truth (has_all vs ws))
contains_all_value x y = Error TypeFault

abbrev pub contains_any_value : Val → Val → Outcome
contains_any_value (set vs) (set ws) = Value (truth (has_some vs ws))
contains_any_value x y = Error TypeFault

-- the value that was found, or this error
abbrev pub found_or : EvalError → Option Val → Outcome
found_or e (Some v) = Value v
found_or e None = Error e

-- `getTag` of an entity: an absent entity is an error, and so is a tag that it does not have
abbrev pub tag_of : EntityUID → Option StoredEntity → List ℕ → Outcome
tag_of u None k = Error (MissingEntity u)
tag_of u (Some e) k = found_or MissingTag (field_at e.tags k)

-- `getTag` asks for an id and a string
abbrev pub get_tag_value : Val → Val → Store → Outcome
get_tag_value (entity u) (string k) s = tag_of u (entity_at s u) k
get_tag_value x y s = Error TypeFault

-- `hasTag` of an entity: an absent entity has no tag
abbrev pub has_tag_of : Option StoredEntity → List ℕ → Bool
has_tag_of None k = false
has_tag_of (Some e) k = is_some (field_at e.tags k)

-- `hasTag` asks for an id and a string
abbrev pub has_tag_value : Val → Val → Store → Outcome
has_tag_value (entity u) (string k) s = Value (truth (has_tag_of (entity_at s u) k))
has_tag_value x y s = Error TypeFault

-- `==` is equality of any two values; each other operator asks what kinds its two values are
abbrev pub binary_value : BinaryOp → Val → Val → Store → Outcome
binary_value Eq x y s = Value (truth (is_eq (val_cmp x y)))
binary_value Less x y s = compared int_lt x y
binary_value LessEq x y s = compared int_le x y
binary_value Add x y s = calculated (λ m n. m +ℤ n) x y
binary_value Sub x y s = calculated (λ m n. m -ℤ n) x y
binary_value Mul x y s = calculated (λ m n. m *ℤ n) x y
binary_value In x y s = in_value x y s
binary_value Contains x y s = contains_value x y
binary_value ContainsAll x y s = contains_all_value x y
binary_value ContainsAny x y s = contains_any_value x y
binary_value GetTag x y s = get_tag_value x y s
binary_value HasTag x y s = has_tag_value x y s

-- `.` of an entity: an absent entity is an error, and so is an attribute that it does not have
abbrev pub attr_of : EntityUID → Option StoredEntity → List ℕ → Outcome
attr_of u None k = Error (MissingEntity u)
attr_of u (Some e) k = found_or MissingAttribute (field_at e.attrs k)

-- `.` asks for an entity or a record
abbrev pub attr_value : Val → List ℕ → Store → Outcome
attr_value (entity u) k s = attr_of u (entity_at s u) k
attr_value (rec fs) k s = found_or MissingAttribute (field_at fs k)
attr_value v k s = Error TypeFault

-- `has` of an entity: an absent entity has no attribute
abbrev pub has_of : Option StoredEntity → List ℕ → Bool
has_of None k = false
has_of (Some e) k = is_some (field_at e.attrs k)

-- `has` asks for an entity or a record
abbrev pub has_value : Val → List ℕ → Store → Outcome
has_value (entity u) k s = Value (truth (has_of (entity_at s u) k))
has_value (rec fs) k s = Value (truth (is_some (field_at fs k)))
has_value v k s = Error TypeFault

-- `like` asks for a string: whether its characters match the pattern
abbrev pub like_value : Val → List PatternElem → Outcome
like_value (string t) p = Value (truth (matches p (chars t)))
like_value v p = Error TypeFault

-- `is` asks for an id, and looks at its type alone
abbrev pub is_value : Val → List ℕ → Outcome
is_value (entity u) t = Value (truth (is_eq (text_cmp u.entity_type t)))
is_value v t = Error TypeFault
