-- The extensions and their functions, in their order.
use Rattle.std.specs.Prelude.{◌≡◌, ℕ, Bool, List, [], ◌∷◌, ◌++◌, Option, Some, None, Contains, codes, map, find}
use Rattle.std.specs.List.{flat_map, list_any, IsDistinct}
use Rattle.std.specs.Ordering.{is_eq}
use Rattle.policy_values.specs.Uid.{text_cmp}
use Rattle.schema_types.specs.Names.{union}
use Rattle.policy_expressions.specs.Functions.{Functions}
use Rattle.policy_expressions.specs.declared.functions.UnaryFunction.TheVariants as unary
use Rattle.policy_expressions.specs.declared.functions.BinaryFunction.TheVariants as binary
use Rattle.policy_expressions.specs.declared.functions.ExtensionFunction.{ExtensionFunction}
use Rattle.policy_expressions.specs.declared.functions.ExtensionFunction.TheVariants.{Unary, Binary}
use Rattle.typing_spec.specs.Signatures.{signature_of}
use Rattle.typing_spec.specs.Types.{FunctionType, Extension}
use Rattle.typing_spec.specs.declared.argument_check.ArgumentCheck.{ArgumentCheck}
use Rattle.typing_spec.specs.declared.argument_check.ArgumentCheck.TheVariants.{Decimal, Ip, Datetime, Duration}

-- how a literal argument is checked: that of a constructor has to be readable
abbrev pub check_of : ExtensionFunction → Option ArgumentCheck
check_of (Unary unary.Decimal) = Some Decimal
check_of (Unary unary.Ip) = Some Ip
check_of (Unary unary.Datetime) = Some Datetime
check_of (Unary unary.Duration) = Some Duration
check_of f = None

-- what is known of the function of a name
abbrev pub typed : List ℕ → ExtensionFunction → FunctionType
typed name f = record { name = name; signature = signature_of f; check = check_of f }

-- the functions of each extension
abbrev pub decimals : Functions
decimals =
    (codes "decimal", Unary unary.Decimal)
    ∷ (codes "lessThan", Binary binary.LessThan)
    ∷ (codes "lessThanOrEqual", Binary binary.LessThanOrEqual)
    ∷ (codes "greaterThan", Binary binary.GreaterThan)
    ∷ (codes "greaterThanOrEqual", Binary binary.GreaterThanOrEqual)
    ∷ []

abbrev pub ranges : Functions
ranges =
    (codes "ip", Unary unary.Ip)
    ∷ (codes "isIpv4", Unary unary.IsIpv4)
    ∷ (codes "isIpv6", Unary unary.IsIpv6)
    ∷ (codes "isLoopback", Unary unary.IsLoopback)
    ∷ (codes "isMulticast", Unary unary.IsMulticast)
    ∷ (codes "isInRange", Binary binary.IsInRange)
    ∷ []

abbrev pub times : Functions
times =
    (codes "datetime", Unary unary.Datetime)
    ∷ (codes "duration", Unary unary.Duration)
    ∷ (codes "offset", Binary binary.Offset)
    ∷ (codes "durationSince", Binary binary.DurationSince)
    ∷ (codes "toDate", Unary unary.ToDate)
    ∷ (codes "toTime", Unary unary.ToTime)
    ∷ (codes "toMilliseconds", Unary unary.ToMilliseconds)
    ∷ (codes "toSeconds", Unary unary.ToSeconds)
    ∷ (codes "toMinutes", Unary unary.ToMinutes)
    ∷ (codes "toHours", Unary unary.ToHours)
    ∷ (codes "toDays", Unary unary.ToDays)
    ∷ []

abbrev pub all_typed : Functions → List FunctionType
all_typed fs = map (λ f. typed f.0 f.1) fs

abbrev pub decimal_extension : Extension
decimal_extension = record { name = codes "decimal"; function_types = all_typed decimals; overloading = [] }

abbrev pub ip_extension : Extension
ip_extension = record { name = codes "ipaddr"; function_types = all_typed ranges; overloading = [] }

abbrev pub datetime_extension : Extension
datetime_extension = record {
  name = codes "datetime";
  function_types = all_typed times;
  overloading = codes "datetime" ∷ codes "duration" ∷ [];
}

abbrev pub all_extensions : List Extension
all_extensions = decimal_extension ∷ ip_extension ∷ datetime_extension ∷ []

-- the functions of all of them, in their order
abbrev pub functions_in : List Extension → List FunctionType
functions_in es = flat_map (λ e. e.function_types) es

-- the types that are compared by `<` and `<=` in any of them, ascending
abbrev pub overloading_in : List Extension → List (List ℕ)
overloading_in es = union [] (flat_map (λ e. e.overloading) es)

-- the function with the name, where there is one
abbrev pub function_at : List FunctionType → List ℕ → Option FunctionType
function_at fs name = find (λ f. is_eq (text_cmp name f.name)) fs

-- whether there is one
abbrev pub is_function : List FunctionType → List ℕ → Bool
is_function fs name = list_any (λ f. is_eq (text_cmp name f.name)) fs

abbrev pub names_of : List FunctionType → List (List ℕ)
names_of fs = map (λ f. f.name) fs

-- no name stands twice
abbrev pub AreOnce : List (List ℕ) → Type 0
AreOnce names = IsDistinct (λ m n. is_eq (text_cmp m n)) names

-- the first name that stands twice: it stands behind names of which it is one, and none of those stands twice
pub record IsFirstRepeated (names : List (List ℕ)) (name : List ℕ) : Type 0 where
  pub before : List (List ℕ)
  pub behind : List (List ℕ)
  pub whole : names ≡ before ++ name ∷ behind
  pub earlier : Contains before name
  pub once : AreOnce before
