-- The texts of durations, and what is asked of them.
use Rattle.std.specs.Prelude.{ℕ, ◌+◌, ◌*◌, ◌≡◌, ◌<◌, ◌⊎◌, Bool, List, [], ◌∷◌, ◌++◌, length, ℤ, FitsSigned}
use Rattle.std.specs.Int.{w64}
use Rattle.std.specs.Str.Parse.{IsNumeral, digits_value}
use Rattle.policy_ext.specs.Sign.{sign, signed}

-- the units d, h, m, s and ms in this order, and the milliseconds of each
abbrev pub units : List (List ℕ × ℕ)
units = (100 ∷ [], 86400000) ∷ (104 ∷ [], 3600000) ∷
    (109 ∷ [], 60000) ∷ (115 ∷ [], 1000) ∷ (109 ∷ 115 ∷ [], 1) ∷ []

-- The text is numbers of some of the units, in their order and each unit at most once; n is their sum.
abbrev pub IsSumOf : List (List ℕ × ℕ) → List ℕ → ℕ → Type 0
IsSumOf [] text n = (text ≡ []) × (n ≡ 0)
IsSumOf (unit ∷ later) text n = IsSumOf later text n ⊎
    ((digits : List ℕ) × (rest : List ℕ) × (m : ℕ) × IsNumeral 10 digits ×
    (text ≡ digits ++ (unit.0 ++ rest)) × IsSumOf later rest m × (n ≡ digits_value 10 digits * unit.1 + m))

-- A duration's text is perhaps a minus, and at least one number with its unit. It stands for v milliseconds,
-- which 64 signed bits hold.
pub record IsDuration (text : List ℕ) (v : ℤ) : Type 0 where
  pub minus : Bool
  pub body : List ℕ
  pub sum : ℕ
  pub spelled : text ≡ sign minus ++ body
  pub some : 0 < length body
  pub is_sum : IsSumOf units body sum
  pub value : v ≡ signed minus sum
  pub fits : FitsSigned w64 v
