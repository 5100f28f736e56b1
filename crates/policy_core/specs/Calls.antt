-- Calls of extension functions.
use Rattle.std.specs.Prelude.{ℕ, Bool, ℤ, pos, ◌+ℤ◌, ◌-ℤ◌, ◌*ℤ◌, int_lt, int_le, int_div, List, [], ◌∷◌, Option, Some, None, Result, Ok, Err}
use Rattle.policy_ext.specs.declared.ip_addr.Family.TheVariants.{V4, V6}
use Rattle.policy_ext.specs.IpAddr.{Range}
use Rattle.policy_ext.specs.IpTests.{same_family, in_range, loopback, multicast}
use Rattle.policy_ext.specs.DateTime.{day_of, time_of}
use Rattle.policy_values.specs.Value.{Val, truth, long, string, decimal, ip, datetime, duration}
use Rattle.policy_values.specs.Readings.{decimal_in, range_in, datetime_in, duration_in}
use Rattle.policy_expressions.specs.declared.functions.UnaryFunction.{UnaryFunction}
use Rattle.policy_expressions.specs.declared.functions.UnaryFunction.TheVariants as unary
use Rattle.policy_expressions.specs.declared.functions.BinaryFunction.{BinaryFunction}
use Rattle.policy_expressions.specs.declared.functions.BinaryFunction.TheVariants as binary
use Rattle.policy_expressions.specs.declared.functions.ExtensionFunction.{ExtensionFunction}
use Rattle.policy_expressions.specs.declared.functions.ExtensionFunction.TheVariants.{Unary, Binary}
use Rattle.policy_core.specs.declared.outcome.EvalError.{EvalError}
use Rattle.policy_core.specs.declared.outcome.EvalError.TheVariants.{TypeFault, UnknownFunction, Arity, ExtensionText, ExtensionOverflow}
use Rattle.policy_core.specs.declared.outcome.Outcome.{Outcome}
use Rattle.policy_core.specs.declared.outcome.Outcome.TheVariants.{Value, Error}
use Rattle.policy_core.specs.Operators.{fit}
use Rattle.policy_expressions.specs.Functions.{function_of}

-- a value that was read; a text that stands for none is an error
abbrev pub read_as : {X : Type 0} → (X → Val) → Option X → Outcome
read_as make (Some x) = Value (make x)
read_as make None = Error ExtensionText

-- a number of milliseconds; what 64 bits do not hold is an overflow
abbrev pub fitting : (ℤ → Val) → Option ℤ → Outcome
fitting make (Some n) = Value (make n)
fitting make None = Error ExtensionOverflow

-- a constructor asks for a string
abbrev pub constructed : {X : Type 0} → (X → Val) → (List ℕ → Option X) → Val → Outcome
constructed make read (string text) = read_as make (read text)
constructed make read v = Error TypeFault

-- a test of one, or of two, ranges of IP addresses
abbrev pub of_range : (Range → Bool) → Val → Outcome
of_range test (ip r) = Value (truth (test r))
of_range test v = Error TypeFault

abbrev pub of_ranges : (Range → Range → Bool) → Val → Val → Outcome
of_ranges test (ip r) (ip s) = Value (truth (test r s))
of_ranges test v w = Error TypeFault

-- a comparison of two decimals
abbrev pub of_decimals : (ℤ → ℤ → Bool) → Val → Val → Outcome
of_decimals test (decimal m) (decimal n) = Value (truth (test m n))
of_decimals test v w = Error TypeFault

-- what is made of a datetime's milliseconds, and of a duration's
abbrev pub of_datetime : (ℤ → Outcome) → Val → Outcome
of_datetime f (datetime n) = f n
of_datetime f v = Error TypeFault

abbrev pub of_duration : (ℤ → ℤ) → Val → Outcome
of_duration f (duration n) = Value (long (f n))
of_duration f v = Error TypeFault

-- the datetime that is later by the duration
abbrev pub offset_value : Val → Val → Outcome
offset_value (datetime m) (duration n) = fitting datetime (fit (m +ℤ n))
offset_value v w = Error TypeFault

-- how much later the first datetime is than the second
abbrev pub since_value : Val → Val → Outcome
since_value (datetime m) (datetime n) = fitting duration (fit (m -ℤ n))
since_value v w = Error TypeFault

-- the start of the day: rounded down to whole days
abbrev pub start_of_day : ℤ → Outcome
start_of_day n = fitting datetime (fit (day_of n *ℤ pos 86400000))

-- the time since the start of the day
abbrev pub since_start : ℤ → Outcome
since_start n = Value (duration (time_of n))

-- the functions of one argument; a duration's whole units are rounded towards zero
abbrev pub unary_call : UnaryFunction → Val → Outcome
unary_call unary.Decimal v = constructed decimal decimal_in v
unary_call unary.Ip v = constructed ip range_in v
unary_call unary.Datetime v = constructed datetime datetime_in v
unary_call unary.Duration v = constructed duration duration_in v
unary_call unary.IsIpv4 v = of_range (λ r. same_family r.family V4) v
unary_call unary.IsIpv6 v = of_range (λ r. same_family r.family V6) v
unary_call unary.IsLoopback v = of_range loopback v
unary_call unary.IsMulticast v = of_range multicast v
unary_call unary.ToDate v = of_datetime start_of_day v
unary_call unary.ToTime v = of_datetime since_start v
unary_call unary.ToMilliseconds v = of_duration (λ n. n) v
unary_call unary.ToSeconds v = of_duration (λ n. int_div n (pos 1000)) v
unary_call unary.ToMinutes v = of_duration (λ n. int_div n (pos 60000)) v
unary_call unary.ToHours v = of_duration (λ n. int_div n (pos 3600000)) v
unary_call unary.ToDays v = of_duration (λ n. int_div n (pos 86400000)) v

-- the functions of two arguments
abbrev pub binary_call : BinaryFunction → Val → Val → Outcome
binary_call binary.LessThan v w = of_decimals int_lt v w
binary_call binary.LessThanOrEqual v w = of_decimals int_le v w
binary_call binary.GreaterThan v w = of_decimals (λ m n. int_lt n m) v w
binary_call binary.GreaterThanOrEqual v w = of_decimals (λ m n. int_le n m) v w
binary_call binary.IsInRange v w = of_ranges in_range v w
binary_call binary.Offset v w = offset_value v w
binary_call binary.DurationSince v w = since_value v w

-- a name that is none of a function is an error, then another number of arguments, then what the function
-- makes of them
abbrev pub called : Option ExtensionFunction → List Val → Outcome
called None vs = Error UnknownFunction
called (Some (Unary f)) (v ∷ []) = unary_call f v
called (Some (Binary f)) (v ∷ w ∷ []) = binary_call f v w
called (Some f) vs = Error Arity

-- a call evaluates its arguments, and then calls the function of its name
abbrev pub call_outcome : List ℕ → Result (List Val) EvalError → Outcome
call_outcome name (Ok vs) = called (function_of name) vs
call_outcome name (Err e) = Error e
