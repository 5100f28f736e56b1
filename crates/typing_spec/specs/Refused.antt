-- Why extensions cannot be used together.
use Rattle.std.specs.Prelude.{⊤, ℕ, List}
use Rattle.typing_spec.specs.Table.{IsFirstRepeated}
use Rattle.typing_spec.specs.declared.extensions.ExtensionInitializationError.{ExtensionInitializationError}
use Rattle.typing_spec.specs.declared.extensions.ExtensionInitializationError.TheVariants.{FuncMultiplyDefined, OutOfMemory}

-- a name of the functions stands twice, and the first that does is reported
abbrev pub IsInitializationRefused : List (List ℕ) → ExtensionInitializationError → Type 0
IsInitializationRefused names (FuncMultiplyDefined e) = IsFirstRepeated names e.name
IsInitializationRefused names OutOfMemory = ⊤
