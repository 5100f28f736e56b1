-- What is written of a decimal is a text of it.
use Rattle.std.proofs.Common.{◌≡◌, ℕ, ◌+◌, ◌-◌, ◌*◌, ◌/◌, ◌%◌, ◌^◌, ◌<◌, List, [], ◌∷◌, length, refl, sym, ap, ◌∙◌, arith, ℤ, pos, negsuc, FitsSigned, w64}
use Rattle.std.proofs.lemmas.Bool.{le-ltb}
use Rattle.std.proofs.lemmas.Fmt.{decimal_digit, decimal_is_IsNumeral}
use Rattle.std.proofs.lemmas.Str.{digit_value_digit}
use Rattle.std.specs.Char.{digit_value}
use Rattle.std.specs.Fmt.{decimal}
use Rattle.std.specs.Prelude.{int_lt, unsigned_abs}
use Rattle.std.specs.Str.Parse.{IsNumeral, digits_value}
use Rattle.policy_ext.specs.Sign.{signed}
use Rattle.policy_ext.specs.Decimal.{IsDecimal, four_digits, decimal_text}

digit : (a : ℕ) → a < 10 → digit_value (48 + a) ≡ a
digit a h = omega (arith, digit_value_digit (48 + a) (omega arith, omega arith))

-- four digits in a row
record AreFour (text : List ℕ) (n : ℕ) : Type 0 where
  pub digits : IsNumeral 10 text
  pub value : digits_value 10 text ≡ n
  pub four : length text ≡ 4

of_four : (a b c d n : ℕ) → a < 10 → b < 10 → c < 10 → d < 10 → ((a * 10 + b) * 10 + c) * 10 + d ≡ n → AreFour ((48 + a) ∷ ((48 + b) ∷ ((48 + c) ∷ ((48 + d) ∷ [])))) n
of_four a b c d n p q r s e =
    let da = digit a p in
    let db = digit b q in
    let dc = digit c r in
    let dd = digit d s in
    record { digits = (omega arith, (omega (arith, da), (omega (arith, db), (omega (arith, dc), (omega (arith, dd), tt))))); value = rw (da, db, dc, dd) (omega (arith, e)); four = omega arith }

four_is : (n : ℕ) → n < 10000 → AreFour (four_digits n) n
four_is n h = rw (decimal_digit (n / 1000) (omega arith), decimal_digit (n / 100 % 10) (omega arith), decimal_digit (n / 10 % 10) (omega arith), decimal_digit (n % 10) (omega arith)) (of_four (n / 1000) (n / 100 % 10) (n / 10 % 10) (n % 10) n (omega arith) (omega arith) (omega arith) (omega arith) (omega arith))

size_signed : (v : ℤ) → v ≡ signed (int_lt v (pos 0)) (unsigned_abs v)
size_signed (pos n) = rw (le-ltb n 0 (omega arith)) refl
size_signed (negsuc n) = refl

size_fits : (v : ℤ) → FitsSigned w64 v → unsigned_abs v < 2 ^ 64
size_fits (pos n) fits = omega (arith, fits.sfits)
size_fits (negsuc n) fits = omega (arith, fits.sfits)

pub decimal_written : (v : ℤ) → FitsSigned w64 v → IsDecimal (decimal_text v) v
decimal_written v fits =
    let size = unsigned_abs v in
    let small : size < 2 ^ 64 = size_fits v fits in
    let whole = decimal_is_IsNumeral (size / 10000) (omega arith) in
    let part = four_is (size % 10000) (omega arith) in
    let sum : digits_value 10 (decimal (size / 10000)) * 10000 + digits_value 10 (four_digits (size % 10000)) * 10 ^ (4 - length (four_digits (size % 10000))) ≡ size = rw (part.four, part.value, whole.1) (omega arith) in
    record {
      minus = int_lt v (pos 0);
      whole = decimal (size / 10000);
      part = four_digits (size % 10000);
      spelled = refl;
      whole_digits = whole.0;
      part_digits = part.digits;
      short = omega (arith, part.four);
      value = size_signed v ∙ ap (signed (int_lt v (pos 0))) (sym sum);
      fits = fits;
    }
