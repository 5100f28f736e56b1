-- With which allowed errors each operator ends: most with none.
use Rattle.std.proofs.Common.{◌≡◌, ℕ, Bool, ℤ, ◌+ℤ◌, ◌-ℤ◌, ◌*ℤ◌, pos, neg_ℤ, int_lt, int_le, int_div, List, [], ◌∷◌, Option, Some, None, refl}
use Rattle.policy_ext.specs.DateTime.{day_of}
use Rattle.policy_ext.specs.IpAddr.{Range}
use Rattle.policy_ext.specs.IpTests.{same_family, in_range, loopback, multicast}
use Rattle.policy_ext.specs.declared.ip_addr.Family.TheVariants.{V4, V6}
use Rattle.policy_values.specs.declared.entity_uid.EntityUID.{EntityUID}
use Rattle.policy_values.specs.Readings.{decimal_in, range_in, datetime_in, duration_in}
use Rattle.policy_values.specs.Value.{Val, truth, long, string, entity, set, rec, decimal, ip, datetime, duration, Vals, no_vals, val, field_at}
use Rattle.entity_store.specs.Store.{StoredEntity, Store, entity_at}
use Rattle.policy_core.specs.declared.outcome.EvalError.{EvalError}
use Rattle.policy_core.specs.declared.outcome.EvalError.TheVariants.{MissingEntity, MissingAttribute, MissingTag, IntegerOverflow, ExtensionOverflow}
use Rattle.policy_core.specs.declared.outcome.Outcome.{Outcome}
use Rattle.policy_core.specs.declared.outcome.Outcome.TheVariants.{Value, Error}
use Rattle.policy_core.specs.Calls.{read_as, constructed, of_range, of_ranges, of_decimals, of_datetime, of_duration, fitting, offset_value, since_value, start_of_day, since_start, unary_call, binary_call, called}
use Rattle.policy_core.specs.Operators.{fit, long_of, unary_value, calculated, binary_value, within, or_within, within_any, in_value, compared, contains_value, contains_all_value, contains_any_value, found_or, tag_of, get_tag_value, has_tag_value, attr_of, attr_value, has_value, like_value, is_value}
use Rattle.policy_expressions.specs.declared.functions.UnaryFunction.{UnaryFunction}
use Rattle.policy_expressions.specs.declared.functions.UnaryFunction.TheVariants as unary_function
use Rattle.policy_expressions.specs.declared.functions.BinaryFunction.{BinaryFunction}
use Rattle.policy_expressions.specs.declared.functions.BinaryFunction.TheVariants as binary_function
use Rattle.policy_expressions.specs.declared.functions.ExtensionFunction.{ExtensionFunction}
use Rattle.policy_expressions.specs.declared.functions.ExtensionFunction.TheVariants.{Unary, Binary}
use Rattle.policy_expressions.specs.declared.kinds.PatternElem.{PatternElem}
use Rattle.policy_expressions.specs.declared.kinds.UnaryOp.{UnaryOp}
use Rattle.policy_expressions.specs.declared.kinds.UnaryOp.TheVariants.{Not, Neg, IsEmpty}
use Rattle.policy_expressions.specs.declared.kinds.BinaryOp.{BinaryOp}
use Rattle.policy_expressions.specs.declared.kinds.BinaryOp.TheVariants.{Eq, Less, LessEq, Add, Sub, Mul, In, Contains, ContainsAll, ContainsAny, GetTag, HasTag}
use Rattle.condition_risks.proofs.Ends.{EndsOnly}

-- the value is the id of an entity that is not in the store
abbrev pub IsMissing : Store → Val → EntityUID → Type 0
IsMissing s v u = (v ≡ entity u) × (entity_at s u ≡ None)

-- the allowed errors of each operator
abbrev pub OfUnary : UnaryOp → EvalError → Type 0
OfUnary Neg IntegerOverflow = Unit {0}
OfUnary o e = ⊥

abbrev pub OfEntity : Store → Val → EvalError → Type 0
OfEntity s v (MissingEntity u) = IsMissing s v u
OfEntity s v e = ⊥

abbrev pub OfNumber : EvalError → Type 0
OfNumber IntegerOverflow = Unit {0}
OfNumber e = ⊥

abbrev pub OfExtension : EvalError → Type 0
OfExtension ExtensionOverflow = Unit {0}
OfExtension e = ⊥

abbrev pub OfBinary : Store → BinaryOp → Val → EvalError → Type 0
OfBinary s Add v e = OfNumber e
OfBinary s Sub v e = OfNumber e
OfBinary s Mul v e = OfNumber e
OfBinary s GetTag v e = OfEntity s v e
OfBinary s o v e = ⊥

abbrev pub OfFunction : Option ExtensionFunction → EvalError → Type 0
OfFunction (Some (Unary unary_function.ToDate)) e = OfExtension e
OfFunction (Some (Binary binary_function.Offset)) e = OfExtension e
OfFunction (Some (Binary binary_function.DurationSince)) e = OfExtension e
OfFunction f e = ⊥

abbrev pub NoError : EvalError → Type 0
NoError e = ⊥

-- numbers
long_ends : (o : Option ℤ) → EndsOnly OfNumber (long_of o)
long_ends (Some n) = tt
long_ends None = λ a. tt

sum_ends : (f : ℤ → ℤ → ℤ) (v w : Val) → EndsOnly OfNumber (calculated f v w)
sum_ends f (long m) (long n) = long_ends (fit (f m n))
sum_ends f v w = λ a. absurd a

compared_ends : (test : ℤ → ℤ → Bool) (v w : Val) → EndsOnly NoError (compared test v w)
compared_ends test (long m) (long n) = tt
compared_ends test (datetime m) (datetime n) = tt
compared_ends test (duration m) (duration n) = tt
compared_ends test v w = λ a. a

pub unary_ends : (o : UnaryOp) (v : Val) → EndsOnly (OfUnary o) (unary_value o v)
unary_ends Not (truth b) = tt
unary_ends Not v = λ a. a
unary_ends Neg (long n) = negated (fit (neg_ℤ n))
  where
    negated : (o : Option ℤ) → EndsOnly (OfUnary Neg) (long_of o)
    negated (Some n) = tt
    negated None = λ a. tt
unary_ends Neg v = λ a. absurd a
unary_ends IsEmpty (set vs) = tt
unary_ends IsEmpty v = λ a. a

-- entities
attribute_ends : (P : EvalError → Type 0) (o : Option Val) → EndsOnly P (found_or MissingAttribute o)
attribute_ends P (Some v) = tt
attribute_ends P None = λ a. absurd a

tag_ends : (P : EvalError → Type 0) (o : Option Val) → EndsOnly P (found_or MissingTag o)
tag_ends P (Some v) = tt
tag_ends P None = λ a. absurd a

module _ (s : Store) where
  attr_of_ends : (u : EntityUID) (n : List ℕ) (r : Option StoredEntity) → entity_at s u ≡ r → EndsOnly (OfEntity s (entity u)) (attr_of u r n)
  attr_of_ends u n None p = λ a. (refl, p)
  attr_of_ends u n (Some e) p = attribute_ends (OfEntity s (entity u)) (field_at e.attrs n)

  pub attr_ends : (v : Val) (n : List ℕ) → EndsOnly (OfEntity s v) (attr_value v n s)
  attr_ends (entity u) n = attr_of_ends u n (entity_at s u) refl
  attr_ends (rec fs) n = attribute_ends (OfEntity s (rec fs)) (field_at fs n)
  attr_ends v n = λ a. absurd a

  tag_of_ends : (u : EntityUID) (k : List ℕ) (r : Option StoredEntity) → entity_at s u ≡ r → EndsOnly (OfEntity s (entity u)) (tag_of u r k)
  tag_of_ends u k None p = λ a. (refl, p)
  tag_of_ends u k (Some e) p = tag_ends (OfEntity s (entity u)) (field_at e.tags k)

  get_tag_ends : (v w : Val) → EndsOnly (OfEntity s v) (get_tag_value v w s)
  get_tag_ends (entity u) (string k) = tag_of_ends u k (entity_at s u) refl
  get_tag_ends v w = λ a. absurd a

  has_tag_ends : (v w : Val) → EndsOnly NoError (has_tag_value v w s)
  has_tag_ends (entity u) (string k) = tt
  has_tag_ends v w = λ a. a

  pub has_ends : (P : EvalError → Type 0) (v : Val) (n : List ℕ) → EndsOnly P (has_value v n s)
  has_ends P (entity u) n = tt
  has_ends P (rec fs) n = tt
  has_ends P v n = λ a. absurd a

  or_within_ends : (b : Bool) (o : Outcome) → EndsOnly NoError o → EndsOnly NoError (or_within b o)
  or_within_ends b (Value (truth c)) h = tt
  or_within_ends b (Value v) h = tt
  or_within_ends b (Error e) h = h

  within_any_ends : (x : EntityUID) (vs : Vals) → EndsOnly NoError (within_any x vs s)
  within_any_ends x no_vals = tt
  within_any_ends x (val (entity y) ys) = or_within_ends (within x y s) (within_any x ys s) (within_any_ends x ys)
  within_any_ends x (val v ys) = λ a. a

  in_ends : (v w : Val) → EndsOnly NoError (in_value v w s)
  in_ends (entity x) (entity y) = tt
  in_ends (entity x) (set ys) = within_any_ends x ys
  in_ends v w = λ a. a

-- texts and sets
pub like_ends : (P : EvalError → Type 0) (v : Val) (p : List PatternElem) → EndsOnly P (like_value v p)
like_ends P (string t) p = tt
like_ends P v p = λ a. absurd a

pub is_ends : (P : EvalError → Type 0) (v : Val) (n : List ℕ) → EndsOnly P (is_value v n)
is_ends P (entity u) n = tt
is_ends P v n = λ a. absurd a

contains_ends : (v w : Val) → EndsOnly NoError (contains_value v w)
contains_ends (set vs) w = tt
contains_ends v w = λ a. a

contains_all_ends : (v w : Val) → EndsOnly NoError (contains_all_value v w)
contains_all_ends (set vs) (set ws) = tt
contains_all_ends v w = λ a. a

contains_any_ends : (v w : Val) → EndsOnly NoError (contains_any_value v w)
contains_any_ends (set vs) (set ws) = tt
contains_any_ends v w = λ a. a

pub binary_ends : (s : Store) (o : BinaryOp) (v w : Val) → EndsOnly (OfBinary s o v) (binary_value o v w s)
binary_ends s Eq v w = tt
binary_ends s Less v w = compared_ends int_lt v w
binary_ends s LessEq v w = compared_ends int_le v w
binary_ends s Add v w = sum_ends (λ m n. m +ℤ n) v w
binary_ends s Sub v w = sum_ends (λ m n. m -ℤ n) v w
binary_ends s Mul v w = sum_ends (λ m n. m *ℤ n) v w
binary_ends s In v w = in_ends s v w
binary_ends s Contains v w = contains_ends v w
binary_ends s ContainsAll v w = contains_all_ends v w
binary_ends s ContainsAny v w = contains_any_ends v w
binary_ends s GetTag v w = get_tag_ends s v w
binary_ends s HasTag v w = has_tag_ends s v w

-- functions
fitting_ends : (make : ℤ → Val) (o : Option ℤ) → EndsOnly OfExtension (fitting make o)
fitting_ends make (Some n) = tt
fitting_ends make None = λ a. tt

date_ends : (v : Val) → EndsOnly OfExtension (of_datetime start_of_day v)
date_ends (datetime n) = fitting_ends datetime (fit (day_of n *ℤ pos 86400000))
date_ends v = λ a. absurd a

offset_ends : (v w : Val) → EndsOnly OfExtension (offset_value v w)
offset_ends (datetime m) (duration n) = fitting_ends datetime (fit (m +ℤ n))
offset_ends v w = λ a. absurd a

since_ends : (v w : Val) → EndsOnly OfExtension (since_value v w)
since_ends (datetime m) (datetime n) = fitting_ends duration (fit (m -ℤ n))
since_ends v w = λ a. absurd a

read_ends : {X : Type 0} (make : X → Val) (o : Option X) → EndsOnly NoError (read_as make o)
read_ends make (Some x) = tt
read_ends make None = λ a. a

made_ends : {X : Type 0} (make : X → Val) (read : List ℕ → Option X) (v : Val) → EndsOnly NoError (constructed make read v)
made_ends make read (string t) = read_ends make (read t)
made_ends make read v = λ a. a

range_ends : (test : Range → Bool) (v : Val) → EndsOnly NoError (of_range test v)
range_ends test (ip r) = tt
range_ends test v = λ a. a

ranges_ends : (test : Range → Range → Bool) (v w : Val) → EndsOnly NoError (of_ranges test v w)
ranges_ends test (ip r) (ip s) = tt
ranges_ends test v w = λ a. a

decimals_ends : (test : ℤ → ℤ → Bool) (v w : Val) → EndsOnly NoError (of_decimals test v w)
decimals_ends test (decimal m) (decimal n) = tt
decimals_ends test v w = λ a. a

time_ends : (v : Val) → EndsOnly NoError (of_datetime since_start v)
time_ends (datetime n) = tt
time_ends v = λ a. a

units_ends : (f : ℤ → ℤ) (v : Val) → EndsOnly NoError (of_duration f v)
units_ends f (duration n) = tt
units_ends f v = λ a. a

one_ends : (f : UnaryFunction) (v : Val) → EndsOnly (OfFunction (Some (Unary f))) (unary_call f v)
one_ends unary_function.Decimal v = made_ends decimal decimal_in v
one_ends unary_function.Ip v = made_ends ip range_in v
one_ends unary_function.Datetime v = made_ends datetime datetime_in v
one_ends unary_function.Duration v = made_ends duration duration_in v
one_ends unary_function.IsIpv4 v = range_ends (λ r. same_family r.family V4) v
one_ends unary_function.IsIpv6 v = range_ends (λ r. same_family r.family V6) v
one_ends unary_function.IsLoopback v = range_ends loopback v
one_ends unary_function.IsMulticast v = range_ends multicast v
one_ends unary_function.ToDate v = date_ends v
one_ends unary_function.ToTime v = time_ends v
one_ends unary_function.ToMilliseconds v = units_ends (λ n. n) v
one_ends unary_function.ToSeconds v = units_ends (λ n. int_div n (pos 1000)) v
one_ends unary_function.ToMinutes v = units_ends (λ n. int_div n (pos 60000)) v
one_ends unary_function.ToHours v = units_ends (λ n. int_div n (pos 3600000)) v
one_ends unary_function.ToDays v = units_ends (λ n. int_div n (pos 86400000)) v

two_ends : (f : BinaryFunction) (v w : Val) → EndsOnly (OfFunction (Some (Binary f))) (binary_call f v w)
two_ends binary_function.Offset v w = offset_ends v w
two_ends binary_function.DurationSince v w = since_ends v w
two_ends binary_function.LessThan v w = decimals_ends int_lt v w
two_ends binary_function.LessThanOrEqual v w = decimals_ends int_le v w
two_ends binary_function.GreaterThan v w = decimals_ends (λ m n. int_lt n m) v w
two_ends binary_function.GreaterThanOrEqual v w = decimals_ends (λ m n. int_le n m) v w
two_ends binary_function.IsInRange v w = ranges_ends in_range v w

pub called_ends : (f : Option ExtensionFunction) (vs : List Val) → EndsOnly (OfFunction f) (called f vs)
called_ends None vs = λ a. a
called_ends (Some (Unary f)) [] = λ a. absurd a
called_ends (Some (Unary f)) (v ∷ []) = one_ends f v
called_ends (Some (Unary f)) (v ∷ w ∷ vs) = λ a. absurd a
called_ends (Some (Binary f)) [] = λ a. absurd a
called_ends (Some (Binary f)) (v ∷ []) = λ a. absurd a
called_ends (Some (Binary f)) (v ∷ w ∷ []) = two_ends f v w
called_ends (Some (Binary f)) (v ∷ w ∷ x ∷ vs) = λ a. absurd a
