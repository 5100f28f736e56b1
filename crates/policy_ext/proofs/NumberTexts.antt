-- A number alone is no text of a point in time, and none of a duration.
use Rattle.std.proofs.Common.{true≢false, slice_index, FitsSigned, w64, ◌≡◌, ℕ, suc, List, [], ◌∷◌, ◌++◌, length, Some, None, refl, sym, ap, ◌∙◌, arith, ℤ, pos, negsuc, unsigned_abs}
use Rattle.std.proofs.lemmas.Bool.{lt-ltb, ne_eqb}
use Rattle.std.proofs.lemmas.Fmt.{decimal_is_IsNumeral}
use Rattle.std.specs.Char.{digit_value}
use Rattle.std.specs.Fmt.{signed_decimal, decimal}
use Rattle.std.specs.Str.Parse.{AllDigits, IsNumeral}
use Rattle.policy_ext.specs.DateTime.{two, four, IsDay, IsDateTime}
use Rattle.policy_ext.specs.Duration.{units, IsDuration}
use Rattle.policy_ext.specs.DurationReading.{cut_digits, sum_from, duration_of}
use Rattle.policy_ext.specs.NumberReading.{without_minus}
use Rattle.policy_ext.proofs.DurationFacts.{duration_exact}
use Rattle.policy_ext.proofs.LackFacts.{has, has_between, decimal_lacks}

-- a number has no minus (45) behind its first byte, and no datetime begins with one
number_is_no_day : (v : ℤ) (rest : List ℕ) (number : ℤ) (front : List ℕ) → FitsSigned w64 v → IsDay front number → signed_decimal v ≡ front ++ rest → ⊥
number_is_no_day v rest number front fits day e = by v fits (e ∙ ap (λ (l : List ℕ). l ++ rest) day.spelled) where
  by : (v : ℤ) → FitsSigned w64 v → signed_decimal v ≡ four (unsigned_abs day.date.year) ++ 45 ∷ ((two day.date.month ++ 45 ∷ two day.date.day) ++ rest) → ⊥
  by (pos n) fits e = true≢false (sym (has_between 45 (four (unsigned_abs day.date.year)) _) ∙ ap (has 45) (sym e) ∙ decimal_lacks 45 n (omega arith) (omega (arith, fits.sfits)))
  by (negsuc n) fits e = absurd (omega (arith, ap (λ (l : List ℕ). slice_index l 0) e))

pub number_is_no_datetime : (v w : ℤ) → FitsSigned w64 v → IsDateTime (signed_decimal v) w → ⊥
number_is_no_datetime v w fits d = number_is_no_day v d.clock d.day d.front fits d.is_day d.spelled

-- digits with no letters behind them
all_digits : (ds : List ℕ) → AllDigits 10 ds → cut_digits ds ≡ (ds, [])
all_digits [] all = refl
all_digits (d ∷ ds) all = rw (lt-ltb (digit_value d) 10 all.0, all_digits ds all.1) refl

no_sum : (ds : List ℕ) → IsNumeral 10 ds → sum_from units ds 0 ≡ None
no_sum ds is = let cut = all_digits ds is.1 in simp cut (rw (ne_eqb (length ds) 0 (λ e. absurd (omega (arith, is.0)))) refl)

behind_minus : (ds : List ℕ) → IsNumeral 10 ds → duration_of (45 ∷ ds) ≡ None
behind_minus ds is = rw (ne_eqb (length ds) 0 (λ e. absurd (omega (arith, is.0))), no_sum ds is) refl

plain : (ds : List ℕ) → IsNumeral 10 ds → duration_of ds ≡ None
plain ds is = rw (no_minus ds is, ne_eqb (length ds) 0 (λ e. absurd (omega (arith, is.0))), no_sum ds is) refl where
  no_minus : (ds : List ℕ) → IsNumeral 10 ds → without_minus ds ≡ ds
  no_minus [] is = refl
  no_minus (d ∷ ds) is = rw (ne_eqb d 45 (λ e. absurd (omega (arith, is.1.0, ap digit_value e)))) refl

pub number_is_no_duration : (v w : ℤ) → FitsSigned w64 v → IsDuration (signed_decimal v) w → ⊥
number_is_no_duration v w fits d = by v fits ((duration_exact (signed_decimal v) w).1 d) where
  by : (v : ℤ) → FitsSigned w64 v → duration_of (signed_decimal v) ≡ Some w → ⊥
  by (pos n) fits e = let none = plain (decimal n) (decimal_is_IsNumeral n (omega (arith, fits.sfits))).0 in cc
  by (negsuc n) fits e = let none = behind_minus (decimal (suc n)) (decimal_is_IsNumeral (suc n) (omega (arith, fits.sfits))).0 in cc
