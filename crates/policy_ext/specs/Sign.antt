-- Signs before numbers.
use Rattle.std.specs.Prelude.{ℕ, Bool, true, false, List, [], ◌∷◌, ℤ, pos, neg_ℤ}

-- a minus or nothing
abbrev pub sign : Bool → List ℕ
sign true = 45 ∷ []
sign false = []

-- the number with that sign
abbrev pub signed : Bool → ℕ → ℤ
signed true n = neg_ℤ (pos n)
signed false n = pos n
