-- When outcomes are values.
use Rattle.std.proofs.Common.{◌≡◌, ℕ, Bool, true, false, ◌&&◌, ℤ, ◌+ℤ◌, ◌-ℤ◌, ◌*ℤ◌, pos, neg_ℤ, int_lt, int_le, int_div, List, [], ◌∷◌, Option, Some, None, is_some, Result, Ok, Err, refl, sym}
use Rattle.policy_ext.specs.DateTime.{day_of}
use Rattle.policy_ext.specs.IpTests.{same_family, in_range, loopback, multicast}
use Rattle.policy_ext.specs.declared.ip_addr.Family.TheVariants.{V4, V6}
use Rattle.policy_values.specs.declared.entity_uid.EntityUID.{EntityUID}
use Rattle.policy_values.specs.Readings.{decimal_in, range_in, datetime_in, duration_in}
use Rattle.policy_values.specs.Value.{Val, long, string, entity, decimal, ip, datetime, duration, rec, field_at}
use Rattle.entity_store.specs.Store.{StoredEntity, Store, entity_at}
use Rattle.schema_types.specs.Ty.{Ty}
use Rattle.policy_core.specs.Allowed.{IsAllowedError}
use Rattle.policy_core.specs.declared.outcome.EvalError.{EvalError}
use Rattle.policy_core.specs.declared.outcome.EvalError.TheVariants.{MissingAttribute, MissingTag}
use Rattle.policy_core.specs.declared.outcome.Outcome.{Outcome}
use Rattle.policy_core.specs.declared.outcome.Outcome.TheVariants.{Value, Error}
use Rattle.policy_core.specs.Eval.{with_value, in_prefix, set_outcome, record_outcome}
use Rattle.policy_core.specs.Calls.{fitting, of_datetime, offset_value, since_value, start_of_day, unary_call, binary_call, called, call_outcome}
use Rattle.policy_core.specs.Operators.{fit, long_of, unary_value, calculated, tag_of, get_tag_value, found_or, attr_of, attr_value, has_of, has_value, has_tag_of, has_tag_value}
use Rattle.policy_expressions.specs.declared.functions.UnaryFunction.{UnaryFunction}
use Rattle.policy_expressions.specs.declared.functions.UnaryFunction.TheVariants as unary
use Rattle.policy_expressions.specs.declared.functions.BinaryFunction.{BinaryFunction}
use Rattle.policy_expressions.specs.declared.functions.BinaryFunction.TheVariants as binary
use Rattle.policy_expressions.specs.declared.functions.ExtensionFunction.{ExtensionFunction}
use Rattle.policy_expressions.specs.declared.functions.ExtensionFunction.TheVariants.{Unary, Binary}
use Rattle.policy_expressions.specs.declared.kinds.UnaryOp.TheVariants.{Neg}
use Rattle.policy_expressions.specs.Functions.{function_of}
use Rattle.typing_spec.specs.Sound.{IsOfType}
use Rattle.condition_truth.proofs.Outcomes.{Quiet}
use Rattle.condition_truth.proofs.Quiet as quiet
use Rattle.condition_truth.specs.Truth.{is_yes, is_no, is_value, is_fit}

-- an outcome of the type that is noted
abbrev pub NoteHolds : Option Ty → Outcome → Type 0
NoteHolds None o = ⊥
NoteHolds (Some t) o = IsOfType t o

-- a value, or an overflow if it is an allowed error
abbrev pub Over : Outcome → Type 0
Over (Value v) = Unit {0}
Over (Error e) = IsAllowedError e → is_fit (Error e) ≡ false

abbrev pub is_ok : {X : Type 0} → Result X EvalError → Bool
is_ok (Ok x) = true
is_ok (Err e) = false

pub quiet_over : (o : Outcome) → Quiet o → Over o
quiet_over (Value v) k = tt
quiet_over (Error e) k = λ a. absurd (k a)

pub yes_value : (o : Outcome) → is_yes o ≡ is_value o && is_yes o
yes_value (Value v) = refl
yes_value (Error e) = refl

quiet_value : (n : Option Ty) (o : Outcome) → Quiet o → NoteHolds n o → is_value o ≡ true
quiet_value None o k h = absurd h
quiet_value (Some t) (Value v) k h = refl
quiet_value (Some t) (Error e) k h = absurd (k h)

fit_value : (n : Option Ty) (o : Outcome) → Over o → NoteHolds n o → is_value o ≡ is_fit o
fit_value None o k h = absurd h
fit_value (Some t) (Value v) k h = refl
fit_value (Some t) (Error e) k h = sym (k h)

pub one_value : (n : Option Ty) (o : Outcome) (f : Val → Outcome) → ((v : Val) → Quiet (f v)) → NoteHolds n (with_value o f) → is_value (with_value o f) ≡ is_value o
one_value n (Value v) f k h = quiet_value n (f v) (k v) h
one_value n (Error e) f k h = refl

pub one_fit : (n : Option Ty) (o : Outcome) (f : Val → Outcome) → ((v : Val) → Over (f v)) → NoteHolds n (with_value o f) → is_value (with_value o f) ≡ is_value o && is_fit (with_value o f)
one_fit n (Value v) f k h = fit_value n (f v) (k v) h
one_fit n (Error e) f k h = refl

abbrev pub two : Outcome → Outcome → (Val → Val → Outcome) → Outcome
two o p f = with_value o (λ v. with_value p (λ w. f v w))

pub two_value : (n : Option Ty) (o p : Outcome) (f : Val → Val → Outcome) → ((v w : Val) → Quiet (f v w)) → NoteHolds n (two o p f) → is_value (two o p f) ≡ is_value o && is_value p
two_value n (Value v) (Value w) f k h = quiet_value n (f v w) (k v w) h
two_value n (Value v) (Error e) f k h = refl
two_value n (Error e) p f k h = refl

pub two_fit : (n : Option Ty) (o p : Outcome) (f : Val → Val → Outcome) → ((v w : Val) → Over (f v w)) → NoteHolds n (two o p f) → is_value (two o p f) ≡ (is_value o && is_value p) && is_fit (two o p f)
two_fit n (Value v) (Value w) f k h = fit_value n (f v w) (k v w) h
two_fit n (Value v) (Error e) f k h = refl
two_fit n (Error e) p f k h = refl

-- numbers
long_over : (o : Option ℤ) → Over (long_of o)
long_over (Some n) = tt
long_over None = λ a. refl

pub neg_over : (v : Val) → Over (unary_value Neg v)
neg_over (long n) = long_over (fit (neg_ℤ n))
neg_over v = λ a. absurd a

pub sum_over : (f : ℤ → ℤ → ℤ) (v w : Val) → Over (calculated f v w)
sum_over f (long m) (long n) = long_over (fit (f m n))
sum_over f v w = λ a. absurd a

fitting_over : (make : ℤ → Val) (o : Option ℤ) → Over (fitting make o)
fitting_over make (Some n) = tt
fitting_over make None = λ a. refl

date_over : (v : Val) → Over (of_datetime start_of_day v)
date_over (datetime n) = fitting_over datetime (fit (day_of n *ℤ pos 86400000))
date_over v = λ a. absurd a

offset_over : (v w : Val) → Over (offset_value v w)
offset_over (datetime m) (duration n) = fitting_over datetime (fit (m +ℤ n))
offset_over v w = λ a. absurd a

since_over : (v w : Val) → Over (since_value v w)
since_over (datetime m) (datetime n) = fitting_over duration (fit (m -ℤ n))
since_over v w = λ a. absurd a

unary_over : (f : UnaryFunction) (v : Val) → Over (unary_call f v)
unary_over unary.ToDate v = date_over v
unary_over unary.Decimal v = quiet_over (unary_call unary.Decimal v) (quiet.quiet_made decimal decimal_in v)
unary_over unary.Ip v = quiet_over (unary_call unary.Ip v) (quiet.quiet_made ip range_in v)
unary_over unary.Datetime v = quiet_over (unary_call unary.Datetime v) (quiet.quiet_made datetime datetime_in v)
unary_over unary.Duration v = quiet_over (unary_call unary.Duration v) (quiet.quiet_made duration duration_in v)
unary_over unary.IsIpv4 v = quiet_over (unary_call unary.IsIpv4 v) (quiet.quiet_range (λ r. same_family r.family V4) v)
unary_over unary.IsIpv6 v = quiet_over (unary_call unary.IsIpv6 v) (quiet.quiet_range (λ r. same_family r.family V6) v)
unary_over unary.IsLoopback v = quiet_over (unary_call unary.IsLoopback v) (quiet.quiet_range loopback v)
unary_over unary.IsMulticast v = quiet_over (unary_call unary.IsMulticast v) (quiet.quiet_range multicast v)
unary_over unary.ToTime v = quiet_over (unary_call unary.ToTime v) (quiet.quiet_time v)
unary_over unary.ToMilliseconds v = quiet_over (unary_call unary.ToMilliseconds v) (quiet.quiet_duration (λ n. n) v)
unary_over unary.ToSeconds v = quiet_over (unary_call unary.ToSeconds v) (quiet.quiet_duration (λ n. int_div n (pos 1000)) v)
unary_over unary.ToMinutes v = quiet_over (unary_call unary.ToMinutes v) (quiet.quiet_duration (λ n. int_div n (pos 60000)) v)
unary_over unary.ToHours v = quiet_over (unary_call unary.ToHours v) (quiet.quiet_duration (λ n. int_div n (pos 3600000)) v)
unary_over unary.ToDays v = quiet_over (unary_call unary.ToDays v) (quiet.quiet_duration (λ n. int_div n (pos 86400000)) v)

binary_over : (f : BinaryFunction) (v w : Val) → Over (binary_call f v w)
binary_over binary.Offset v w = offset_over v w
binary_over binary.DurationSince v w = since_over v w
binary_over binary.LessThan v w = quiet_over (binary_call binary.LessThan v w) (quiet.quiet_decimals int_lt v w)
binary_over binary.LessThanOrEqual v w = quiet_over (binary_call binary.LessThanOrEqual v w) (quiet.quiet_decimals int_le v w)
binary_over binary.GreaterThan v w = quiet_over (binary_call binary.GreaterThan v w) (quiet.quiet_decimals (λ m n. int_lt n m) v w)
binary_over binary.GreaterThanOrEqual v w = quiet_over (binary_call binary.GreaterThanOrEqual v w) (quiet.quiet_decimals (λ m n. int_le n m) v w)
binary_over binary.IsInRange v w = quiet_over (binary_call binary.IsInRange v w) (quiet.quiet_ranges in_range v w)

called_over : (f : Option ExtensionFunction) (vs : List Val) → Over (called f vs)
called_over None vs = λ a. absurd a
called_over (Some (Unary f)) [] = λ a. absurd a
called_over (Some (Unary f)) (v ∷ []) = unary_over f v
called_over (Some (Unary f)) (v ∷ w ∷ vs) = λ a. absurd a
called_over (Some (Binary f)) [] = λ a. absurd a
called_over (Some (Binary f)) (v ∷ []) = λ a. absurd a
called_over (Some (Binary f)) (v ∷ w ∷ []) = binary_over f v w
called_over (Some (Binary f)) (v ∷ w ∷ x ∷ vs) = λ a. absurd a

pub call_fit : (n : Option Ty) (f : List ℕ) (r : Result (List Val) EvalError) → NoteHolds n (call_outcome f r) → is_value (call_outcome f r) ≡ is_ok r && is_fit (call_outcome f r)
call_fit n f (Ok vs) h = fit_value n (called (function_of f) vs) (called_over (function_of f) vs) h
call_fit n f (Err e) h = refl

-- sets and records
pub prefix_ok : {X : Type 0} (f : Val → X) (o : Outcome) (r : Result (List X) EvalError) → is_ok (in_prefix f o r) ≡ is_value o && is_ok r
prefix_ok f (Error e) r = refl
prefix_ok f (Value v) (Ok xs) = refl
prefix_ok f (Value v) (Err e) = refl

pub set_yes : (r : Result (List Val) EvalError) → is_yes (set_outcome r) ≡ false
set_yes (Ok vs) = refl
set_yes (Err e) = refl

pub set_no : (r : Result (List Val) EvalError) → is_no (set_outcome r) ≡ false
set_no (Ok vs) = refl
set_no (Err e) = refl

pub set_ok : (r : Result (List Val) EvalError) → is_value (set_outcome r) ≡ is_ok r
set_ok (Ok vs) = refl
set_ok (Err e) = refl

pub record_yes : (r : Result (List (List ℕ × Val)) EvalError) → is_yes (record_outcome r) ≡ false
record_yes (Ok vs) = refl
record_yes (Err e) = refl

pub record_no : (r : Result (List (List ℕ × Val)) EvalError) → is_no (record_outcome r) ≡ false
record_no (Ok vs) = refl
record_no (Err e) = refl

pub record_ok : (r : Result (List (List ℕ × Val)) EvalError) → is_value (record_outcome r) ≡ is_ok r
record_ok (Ok vs) = refl
record_ok (Err e) = refl

-- attributes and tags
found_value : (e : EvalError) (o : Option Val) → is_value (found_or e o) ≡ is_some o
found_value e (Some v) = refl
found_value e None = refl

module _ (s : Store) where
  attr_there : (u : EntityUID) (n : List ℕ) (r : Option StoredEntity) → is_value (attr_of u r n) ≡ has_of r n
  attr_there u n None = refl
  attr_there u n (Some e) = found_value MissingAttribute (field_at e.attrs n)

  pub attr_is : (o : Outcome) (n : List ℕ) → is_value (with_value o (λ v. attr_value v n s)) ≡ is_value o && is_yes (with_value o (λ v. has_value v n s))
  attr_is (Value (entity u)) n = attr_there u n (entity_at s u)
  attr_is (Value (rec fs)) n = found_value MissingAttribute (field_at fs n)
  attr_is (Value v) n = refl
  attr_is (Error e) n = refl

  tag_there : (u : EntityUID) (k : List ℕ) (r : Option StoredEntity) → is_value (tag_of u r k) ≡ has_tag_of r k
  tag_there u k None = refl
  tag_there u k (Some e) = found_value MissingTag (field_at e.tags k)

  pub tag_is : (o p : Outcome) → is_value (two o p (λ v w. get_tag_value v w s)) ≡ (is_value o && is_value p) && is_yes (two o p (λ v w. has_tag_value v w s))
  tag_is (Value (entity u)) (Value (string k)) = tag_there u k (entity_at s u)
  tag_is (Value v) (Value w) = refl
  tag_is (Value v) (Error e) = refl
  tag_is (Error e) p = refl

  pub has_yes : (o : Outcome) (n : List ℕ) → is_yes (with_value o (λ v. has_value v n s)) ≡ is_value o && is_yes (with_value o (λ v. has_value v n s))
  has_yes (Value v) n = refl
  has_yes (Error e) n = refl

  pub tagged_yes : (o p : Outcome) → is_yes (two o p (λ v w. has_tag_value v w s)) ≡ (is_value o && is_value p) && is_yes (two o p (λ v w. has_tag_value v w s))
  tagged_yes (Value v) (Value w) = refl
  tagged_yes (Value v) (Error e) = refl
  tagged_yes (Error e) p = refl
