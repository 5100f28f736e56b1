-- The texts of decimals, and the one that is written.
use Rattle.std.specs.Prelude.{ℕ, ◌+◌, ◌*◌, ◌-◌, ◌/◌, ◌%◌, ◌^◌, pos, int_lt, unsigned_abs, ◌≡◌, ◌≤◌, Bool, List, ◌∷◌, ◌++◌, length, ℤ, FitsSigned}
use Rattle.std.specs.Int.{w64}
use Rattle.std.specs.Fmt.{decimal}
use Rattle.std.specs.Str.Parse.{IsNumeral, digits_value}
use Rattle.policy_ext.specs.Sign.{sign, signed}

-- A decimal's text is perhaps a minus, one or more digits, a point (46) and one to four digits. It stands for
-- v ten-thousandths, which 64 signed bits hold.
pub record IsDecimal (text : List ℕ) (v : ℤ) : Type 0 where
  pub minus : Bool
  pub whole : List ℕ
  pub part : List ℕ
  pub spelled : text ≡ sign minus ++ (whole ++ 46 ∷ part)
  pub whole_digits : IsNumeral 10 whole
  pub part_digits : IsNumeral 10 part
  pub short : length part ≤ 4
  pub value : v ≡ signed minus (digits_value 10 whole * 10000 + digits_value 10 part * 10 ^ (4 - length part))
  pub fits : FitsSigned w64 v

-- exactly four digits
abbrev pub four_digits : ℕ → List ℕ
four_digits n = decimal (n / 1000) ++ (decimal (n / 100 % 10) ++ (decimal (n / 10 % 10) ++ decimal (n % 10)))

-- what is written of v ten-thousandths: no needless zero in front, and exactly four digits after the point
abbrev pub decimal_text : ℤ → List ℕ
decimal_text v =
    sign (int_lt v (pos 0)) ++ (decimal (unsigned_abs v / 10000) ++ 46 ∷ four_digits (unsigned_abs v % 10000))
