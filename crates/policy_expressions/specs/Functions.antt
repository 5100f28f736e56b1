-- Extension functions, and which name stands for which.
use Rattle.std.specs.Prelude.{ℕ, List, [], ◌∷◌, Option, codes}
use Rattle.policy_expressions.specs.Tables.{beside}
use Rattle.policy_expressions.specs.declared.functions.UnaryFunction.TheVariants.{Decimal, Ip, Datetime, Duration, IsIpv4, IsIpv6, IsLoopback, IsMulticast, ToDate, ToTime, ToMilliseconds, ToSeconds, ToMinutes, ToHours, ToDays}
use Rattle.policy_expressions.specs.declared.functions.BinaryFunction.TheVariants.{LessThan, LessThanOrEqual, GreaterThan, GreaterThanOrEqual, IsInRange, Offset, DurationSince}
use Rattle.policy_expressions.specs.declared.functions.ExtensionFunction.{ExtensionFunction}
use Rattle.policy_expressions.specs.declared.functions.ExtensionFunction.TheVariants.{Unary, Binary}

abbrev pub Functions : Type 0
Functions = List (List ℕ × ExtensionFunction)

-- functions of durations
unfoldable pub duration_functions : Functions
duration_functions =
    (codes "toMilliseconds", Unary ToMilliseconds)
    ∷ (codes "toSeconds", Unary ToSeconds)
    ∷ (codes "toMinutes", Unary ToMinutes)
    ∷ (codes "toHours", Unary ToHours)
    ∷ (codes "toDays", Unary ToDays)
    ∷ []

-- functions of datetimes, and then those
unfoldable pub datetime_functions : Functions
datetime_functions =
    (codes "offset", Binary Offset)
    ∷ (codes "durationSince", Binary DurationSince)
    ∷ (codes "toDate", Unary ToDate)
    ∷ (codes "toTime", Unary ToTime)
    ∷ duration_functions

-- functions of ranges of IP addresses, and then those
unfoldable pub ip_functions : Functions
ip_functions =
    (codes "isIpv4", Unary IsIpv4)
    ∷ (codes "isIpv6", Unary IsIpv6)
    ∷ (codes "isLoopback", Unary IsLoopback)
    ∷ (codes "isMulticast", Unary IsMulticast)
    ∷ (codes "isInRange", Binary IsInRange)
    ∷ datetime_functions

-- functions of decimals, and then those
unfoldable pub decimal_functions : Functions
decimal_functions =
    (codes "lessThan", Binary LessThan)
    ∷ (codes "lessThanOrEqual", Binary LessThanOrEqual)
    ∷ (codes "greaterThan", Binary GreaterThan)
    ∷ (codes "greaterThanOrEqual", Binary GreaterThanOrEqual)
    ∷ ip_functions

-- the constructors, and then those
unfoldable pub functions : Functions
functions =
    (codes "decimal", Unary Decimal)
    ∷ (codes "ip", Unary Ip)
    ∷ (codes "datetime", Unary Datetime)
    ∷ (codes "duration", Unary Duration)
    ∷ decimal_functions

-- the function of a name, where there is one
abbrev pub function_of : List ℕ → Option ExtensionFunction
function_of name = beside functions name
