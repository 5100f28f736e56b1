-- Keys that stand at more than one place of a list.
use Rattle.std.specs.Prelude.{◌≡◌, ℕ, List, Some, Contains, IsSomeAnd, slice_get, take}

-- the key at the place stands at an earlier place too
abbrev pub StandsEarlier : {K : Type 0} → List K → ℕ → Type 0
StandsEarlier xs i = IsSomeAnd (slice_get xs i) (Contains (take i xs))

-- the key stands at some place, and at an earlier place too
abbrev pub IsRepeated : {K : Type 0} → List K → K → Type 0
IsRepeated xs k = (i : ℕ) × (slice_get xs i ≡ Some k) × Contains (take i xs) k
