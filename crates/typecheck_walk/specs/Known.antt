-- What a typechecker asks of extensions.
use Rattle.std.specs.Prelude.{◌≡◌, ℕ, List, option_map}
use Rattle.policy_expressions.specs.Functions.{function_of}
use Rattle.typing_spec.specs.Types.{Extensions}
use Rattle.typing_spec.specs.Table.{function_at, typed}

-- each extension function is found under its name, with its signature
abbrev pub KnowsFunctions : Extensions → Type 0
KnowsFunctions e =
    (name : List ℕ) → function_at e.function_types name ≡ option_map (typed name) (function_of name)
