-- Tables of names.
use Rattle.std.specs.Prelude.{ℕ, List, [], ◌∷◌, Option, Some, None, if◌then◌else◌}
use Rattle.std.specs.Str.{bytes_eq}

-- what stands beside a name in a table, where the name is in it
abbrev pub beside : {A : Type 0} → List (List ℕ × A) → List ℕ → Option A
beside [] name = None
beside (e ∷ es) name = if bytes_eq name e.0 then Some e.1 else beside es name
