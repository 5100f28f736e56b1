-- Functions kept under their names.
use Rattle.std.specs.Prelude.{◌≡◌, ℕ, List, map}
use Rattle.std.specs.Option.{option_copied}
use Rattle.std.specs.BTreeMap.{BTreeMap, get}
use denote.Ref.{Bor}
use Rattle.policy_values.specs.Uid.{text_cmp}
use Rattle.typing_spec.specs.Types.{FunctionType}
use Rattle.typing_spec.specs.Table.{function_at}

-- the functions that are referred to
abbrev pub pointed : List (Bor FunctionType) → List FunctionType
pointed fs = map (λ f. f.now) fs

-- a look-up finds the function with the name
abbrev pub AreByName : List FunctionType → BTreeMap (List ℕ) (Bor FunctionType) → Type 0
AreByName fs entries = (name : List ℕ) → option_copied (get text_cmp entries name) ≡ function_at fs name
