-- Which arguments of a call are refused, and what is said of them.
use Rattle.std.specs.Prelude.{ℕ, List, ◌++◌, Option, Some, None, codes, if◌then◌else◌}
use Rattle.std.specs.Option.{option_and_then}
use Rattle.policy_values.specs.Show.{escaped}
use Rattle.policy_expressions.specs.Tree.{Trees}
use Rattle.policy_expressions.specs.declared.functions.UnaryFunction.TheVariants as unary
use Rattle.policy_expressions.specs.declared.functions.ExtensionFunction.{ExtensionFunction}
use Rattle.policy_expressions.specs.declared.functions.ExtensionFunction.TheVariants.{Unary}
use Rattle.typing_spec.specs.Signatures.{is_readable, only_text}
use Rattle.typing_spec.specs.declared.argument_check.ArgumentCheck.{ArgumentCheck}
use Rattle.typing_spec.specs.declared.argument_check.ArgumentCheck.TheVariants.{Decimal, Ip, Datetime, Duration}

-- the constructor whose texts are checked so
abbrev pub constructor_of : ArgumentCheck → ExtensionFunction
constructor_of Decimal = Unary unary.Decimal
constructor_of Ip = Unary unary.Ip
constructor_of Datetime = Unary unary.Datetime
constructor_of Duration = Unary unary.Duration

-- how the value is called that a text should stand for
abbrev pub value_text : ArgumentCheck → List ℕ
value_text Decimal = codes "a decimal value"
value_text Ip = codes "IP address"
value_text Datetime = codes "a datetime value"
value_text Duration = codes "a duration value"

abbrev pub message : ArgumentCheck → List ℕ → List ℕ
message check text =
    codes "Failed to parse as " ++ (value_text check ++ (codes ": `\"" ++ (escaped text ++ codes "\"`")))

-- what is said of the text, where the constructor does not read it
abbrev pub unreadable : ArgumentCheck → List ℕ → Option (List ℕ)
unreadable check text = if is_readable (constructor_of check) text then None else Some (message check text)

-- what is said of the arguments, where they are one string literal that the constructor does not read
abbrev pub refusal : {A : Type 0} → Option ArgumentCheck → Trees A → Option (List ℕ)
refusal None xs = None
refusal (Some check) xs = option_and_then (unreadable check) (only_text xs)
